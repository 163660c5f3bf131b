-- Each part of the promise is an equation. Assumes nothing.
use mathlib.Core.Path.{◌∙◌, sym}
use Rattle.radio.specs.Radio.{ReadUnique}

pub fpm_read_unique : ReadUnique
fpm_read_unique s n f k p c n' f' k' p' c' x y = (
  x.gives ∙ sym y.gives,
  x.feeder_left ∙ sym y.feeder_left,
  x.kind_left ∙ sym y.kind_left,
  x.sender_left ∙ sym y.sender_left,
  x.counter_left ∙ sym y.counter_left,
)
