-- Opens every definition of the crate and of those below it at once, for the files that compute them.
use Rattle.signed.specs.Bias.{whole_of, bias_day, unbias_day, bias_instant, unbias_instant}

unfoldable pub opened : Unit {0}
unfolding whole_of bias_day unbias_day bias_instant unbias_instant
opened = tt
