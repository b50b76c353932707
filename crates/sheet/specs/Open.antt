-- Opens every definition of the crate and of those below it at once, for the files that compute them.
use Rattle.calendar.specs.Open.{opened as calendar-opened}
use Rattle.lines.specs.Open.{opened as lines-opened}
use Rattle.zone.specs.Open.{opened as zone-opened}
use Rattle.sheet.specs.Form.{clock_digits, time_of, shift_of, element_of, field_of, weekday_words, ordinal_entry, entry_of, frequency_words, frequency_at, part_words, part_by, value_of, named, part_of, form_by, change_by, change_of, cron_of, rule_by, rule_of, tagged, form_of}
use Rattle.sheet.specs.Meaning.{element_has, field_has, cron_holds, entry_has, month_day_has, month_has, month_or, day_set, position_has, occurs_on, occurs_at, rule_holds, line_holds, line_excepts, sheet_held, offset_of_lines, changes_of_lines, sheet_zone}
use Rattle.sheet.specs.Parts.{given_of, given_twice, clashing, by_frequency, parts_together}
use Rattle.sheet.specs.Place.{in_place}
use Rattle.sheet.specs.Range.{time_in_range, minute_of, instant_of_time, shift_minutes, shift_in_range, offset_of_shift, element_in_range, field_in_range, entry_in_range, part_in_range, in_range}
use Rattle.sheet.specs.Refusals.{context_after, bytes_good, together, limits_kept, start_occurs, form_refusal, form_refusal_or3, line_refusal, too_long, read_from, read_sheet, bad_line, bad_at, bad_length}
use Rattle.sheet.specs.Words.{same_bytes, word_in, decimal, number_of, signed_of, pieces, cons_of, each_of}

unfoldable pub opened : Unit {0}
unfolding calendar-opened lines-opened zone-opened clock_digits time_of shift_of element_of field_of weekday_words ordinal_entry entry_of frequency_words frequency_at part_words part_by value_of named part_of form_by change_by change_of cron_of rule_by rule_of tagged form_of element_has field_has cron_holds entry_has month_day_has month_has month_or day_set position_has occurs_on occurs_at rule_holds line_holds line_excepts sheet_held offset_of_lines changes_of_lines sheet_zone given_of given_twice clashing by_frequency parts_together in_place time_in_range minute_of instant_of_time shift_minutes shift_in_range offset_of_shift element_in_range field_in_range entry_in_range part_in_range in_range context_after bytes_good together limits_kept start_occurs form_refusal form_refusal_or3 line_refusal too_long read_from read_sheet bad_line bad_at bad_length same_bytes word_in decimal number_of signed_of pieces cons_of each_of
opened = tt
