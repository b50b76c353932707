-- Opens every definition of the meanings at once, for the files that compute them.
use Rattle.compile.specs.Open.{opened as compile-opened}
use Rattle.evandrusk.specs.Open.{opened as evandrusk-opened}

unfoldable pub opened : Unit {0}
unfolding compile-opened evandrusk-opened
opened = tt
