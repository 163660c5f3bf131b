-- The nights P1 to P10 hold, over the short record and over the full queue: by computation. Assumes nothing.
use mathlib.Core.Path.{refl}
use Rattle.laws.specs.Lists.{keep, all, final, put, upto, top, rises, leading}
use Rattle.laws.specs.Ladder.{unless}
use Rattle.laws.specs.Below.{all_to, sum_to, least_to}
use Rattle.frame.specs.Frame.{frame, fields_of, form_rows}
use Rattle.calls.specs.Table.{phase_tests, sender_tests, turn_tests, receive_tests}
use Rattle.queue.specs.Queue.{clock, last, heard, settled, waiting, room, free, latest, phase, order, value, lacks}
use Rattle.calls.specs.Replies.{after, replies}
use Rattle.calls.specs.Start.{in_range}
use Rattle.calls.specs.View.{acks}
use Rattle.queue.specs.Calls as queue
use Rattle.queue.specs.Feeder.{pending, comes_to, run}
use Rattle.post.specs.Record.{floor, fresh, remade}
use Rattle.post.specs.Sound.{absent_silent, clock_above, fair, none_alone, is_blank, few, end_kind, own_fits, own_few, sum_fits, order_fits}
use Rattle.post.specs.Sound.{number_rules, slot_rules, count_rules, sound}
use Rattle.post.specs.Settle.{own_number, order_after, tallied, phase_after, settle}
use Rattle.post.specs.Settle as post-settle
use Rattle.post.specs.Calls as post
use Rattle.beside.specs.Image.{list_from}
use Rattle.beside.specs.OnRecord.{on_record}
use Rattle.beside.specs.Nights.{nights, on_the_record, on_the_queue, NightsHold, ran_to, OneRun}

pub nights_hold : NightsHold
unfolding nights on_the_record on_the_queue on_record after replies list_from
    keep all final put upto top all_to sum_to unless frame fields_of form_rows phase_tests sender_tests turn_tests receive_tests
    clock last heard settled waiting room free latest phase order value lacks
    acks queue.saying queue.say queue.accept queue.grant_came queue.said queue.received queue.on_queue
    least_to floor fresh remade leading own_number order_after tallied post-settle.free phase_after settle
    in_range absent_silent clock_above fair rises none_alone is_blank few end_kind own_fits own_few sum_fits order_fits
    number_rules slot_rules count_rules sound
    post.started post.spoken post.came post.own_rows post.receive_rows post.heard_from
    post.valued post.own_stamp post.lacks post.missed
nights_hold = refl

pub one_run : OneRun
unfolding ran_to run comes_to pending after
    keep final put upto top all_to unless frame fields_of form_rows phase_tests sender_tests turn_tests receive_tests
    clock last heard settled waiting room free latest phase
    acks queue.saying queue.say queue.accept queue.said queue.received queue.on_queue
one_run = refl
