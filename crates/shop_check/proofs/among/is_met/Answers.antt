use Rattle.std.proofs.Common.{◌≡◌, Option, Some, None, refl, sym, ap, ◌∙◌}
use Rattle.std.specs.Prelude.{is_some}
use Rattle.std.specs.Option.{option_copied}
use denote.Ref.{Bor}
use Rattle.shop_operations.specs.References.{live}
use Rattle.shop_check.proofs.Ones.{met_where_found}
use Rattle.shop_check.proofs.among.is_met.Goals as goal

is_there : {X : Type 0} (found : Option (Bor X)) → is_some found ≡ is_some (option_copied found)
is_there None = refl
is_there (Some x) = refl

pub returns-in-Some : goal.returns-in-Some
returns-in-Some g c =
    c.is_some.ensures
    ∙ (is_there c.one.result ∙ (ap is_some c.one.ensures ∙ sym (met_where_found c.args.reference.now (live (g.O.Others.rows c.args.others.now)) c.args.row.now c.in-Some.id (sym c.in-Some.ensures))))
