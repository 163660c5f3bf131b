use Rattle.std.proofs.lemmas.Result.{err_from_is_err_and}
use Rattle.frame.proofs.Stored.{short, bad_message, written}
use Rattle.frame.proofs.write.Goals as goal

pub returns-then-buf-lt-SIZE : goal.returns-then-buf-lt-SIZE
returns-then-buf-lt-SIZE c = short _ _ _ c.if-buf-lt-SIZE.true

pub returns-in_err-check_message : goal.returns-in_err-check_message
returns-in_err-check_message c =
    let p = err_from_is_err_and c.from_residual.result c.from_residual.ensures.1 in
    rw (p.1, p.2) (bad_message _ _ _ c.if-buf-lt-SIZE.false _ c.in_err-check_message.ensures)

pub returns : goal.returns
returns c = written _ _ _ c.if-buf-lt-SIZE.false c.in_ok-check_message.ensures c.store.ensures
