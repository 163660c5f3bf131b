-- Each record is opened. Assumes nothing.
use Rattle.std.proofs.Common.{◌≡◌, map, replicate, rules}
use Rattle.frame.specs.Message.{blank}
use Rattle.laws.specs.Search.{from}
use Rattle.bench.specs.Night.{begun, opened}
use Rattle.bench.proofs.Nights.{made_from}
use Rattle.bench.proofs.Night.begin.Goals as goal

pub returns : goal.returns
unfolding begun
returns c =
    let items = c.from_fn.ensures.items in
    let e : c.from_fn.result ≡ map (opened c.args.n c.args.k) (from 0 16) = made_from _ (opened c.args.n c.args.k) _ (λ x y q h. search rules) _ 0 16 items.each items.long in
    λ i. record { posts = e i; sent = replicate 256 blank; count = 0; read = replicate 256 0 }
