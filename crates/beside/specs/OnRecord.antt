-- The calls over the short record, as the crate post promises them, told in the terms of both.
use Rattle.calls.specs.{declared.Start.{Start}, Replies.{Call, own_call, receive_call, value_call, missing_call, told, worth, lacking, Answer}}
use Rattle.post.specs.{declared.Post.{Post}, Calls.{Outcome, started, spoke, received, valued, missed}}

-- what a take, a return or a receive gives back, with the lent bytes after it
abbrev pub answered : Outcome → Answer Post
answered o = let a = o.gives in record { next = a.post; reply = told (record { number = a.number; wrote = a.wrote; granted = a.granted; lent = o.leaves }) }

unfoldable pub on_record : Post → Call → Answer Post
on_record p (own_call o lent) = answered (spoke o p lent)
on_record p (receive_call s lent) = answered (received p s lent)
on_record p value_call = record { next = p; reply = worth (valued p).number (valued p).value }
on_record p missing_call = record { next = p; reply = lacking (missed p).number (missed p).set (missed p).count }

-- the record that a start gives
abbrev pub started_post : Start → Post
started_post st = (started st).post
