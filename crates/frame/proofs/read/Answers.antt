use Rattle.std.proofs.lemmas.Result.{err_from_is_err_and}
use Rattle.frame.proofs.ReadLaws.{bad_form, bad_message, good_frame}
use Rattle.frame.proofs.read.Goals as goal

pub returns-in_err-check_form : goal.returns-in_err-check_form
returns-in_err-check_form c =
    let p = err_from_is_err_and c.from_residual.result c.from_residual.ensures.1 in
    rw (p.1, p.2) (bad_form _ c.split-f.ensures _ c.in_err-check_form.ensures)

pub returns-in_err-check_message : goal.returns-in_err-check_message
returns-in_err-check_message c =
    let p = err_from_is_err_and c.from_residual-in_err-check_message.result c.from_residual-in_err-check_message.ensures.1 in
    rw (p.1, p.2) (bad_message _ c.split-f.ensures c.in_ok-check_form.ensures _ c.in_err-check_message.ensures)

pub returns : goal.returns
returns c = good_frame _ c.split-f.ensures c.in_ok-check_form.ensures c.in_ok-check_message.ensures
