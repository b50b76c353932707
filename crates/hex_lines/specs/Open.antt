-- Opens every definition of the crate and of those below it at once, for the files that compute them.
use Rattle.calendar.specs.Open.{opened as calendar-opened}
use Rattle.lines.specs.Open.{opened as lines-opened}
use Rattle.hex_lines.specs.Hex.{hex_digit, hex_of, digit_value, line_bytes, spells, bytes_number, digit_bits, digits_number, number_at, put_at}

unfoldable pub opened : Unit {0}
unfolding calendar-opened lines-opened hex_digit hex_of digit_value line_bytes spells bytes_number digit_bits digits_number number_at put_at
opened = tt
