-- Each store leaves what the definition says, and six of them the frame. Assumes nothing.
use Rattle.frame.proofs.Stored.{stored}
use Rattle.frame.proofs.store.Goals as goal

pub returns : goal.returns
returns c =
    let a = c.args in
    stored a.buf.now a.feeder a.m
    (rw c.from.ensures at c.store.ensures)
    (rw c.from-2.ensures at c.store-2.ensures)
    (rw c.from-3.ensures at c.store-3.ensures)
    (rw c.from-4.ensures at c.store-4.ensures)
    (rw c.from-5.ensures at c.store-5.ensures)
    (rw c.from-6.ensures at c.store-6.ensures)
    c.requires
