-- Why the bench shows the same posts over short records and over full queues.
mod Ranges  -- a header's posts are accepted, a command's are among them, and a frame on the way is bytes
pub mod InStep  -- two plans that go in step write the same
mod Records  -- the bench's night goes beside the night over short records
mod Queues  -- short records and full queues go in step
pub mod Same  -- the proofs of specs/Same
