-- The proofs of `specs/Same`: the bench goes beside posts with short records (`Records`), and these go in step with posts that keep
-- their full queues (`Queues`). Assumes nothing.
use mathlib.Core.Path.{◌∙◌}
use Rattle.bench.proofs.WholeNights.{whole_night}
use Rattle.plans.specs.Same.{BenchIsBasic, SamePosts, HoweverCut}
use Rattle.plans.proofs.Records.{beside_records}
use Rattle.plans.proofs.Queues.{basic_is_full}

pub bench_is_basic : BenchIsBasic
bench_is_basic = beside_records

pub same_posts : SamePosts
same_posts input = bench_is_basic input ∙ basic_is_full input

pub however_cut : HoweverCut
however_cut input written s = whole_night input written s ∙ same_posts input
