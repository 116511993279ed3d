-- What stands at a key once its value was renewed.
use Rattle.std.specs.Prelude.{Option, Some, None}
use Rattle.renewed.specs.declared.meaning.Renewed.{Renewed}
use Rattle.renewed.specs.declared.meaning.Renewed.TheVariants as R

abbrev pub left : {V : Type 0} → Renewed V → Option V → Option V
left R.Same old = old
left R.Gone old = None
left (R.New value) old = Some value
