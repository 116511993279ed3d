use Rattle.std.proofs.Common.{sym, ◌∙◌, inl, inr}
use Rattle.std.proofs.lemmas.Str.{is_utf8-from_IsUtf8, IsUtf8-from_is_utf8}
use Rattle.std.proofs.lemmas.Bool.{cases_Bool}
use Rattle.std.specs.Str.{is_utf8}
use Rattle.shop_routes.proofs.router.plain_text.Goals as goal

pub returns-in-Ok : goal.returns-in-Ok
returns-in-Ok c =
    let e = c.in-Ok.ensures.cases in
    let plain = sym c.has_plain_bytes.ensures ∙ c.if-not-has_plain_bytes.false in
    (e.0, rw plain (is_utf8-from_IsUtf8 c.args.target.now e.1))

pub returns-in-Err : goal.returns-in-Err
returns-in-Err c =
    let plain = sym c.has_plain_bytes.ensures ∙ c.if-not-has_plain_bytes.false in
    rw plain (elim (cases_Bool (is_utf8 c.args.target.now)) [
      | inl text ↦ absurd (c.in-Err.ensures.cases.0 (IsUtf8-from_is_utf8 c.args.target.now text))
      | inr isnt ↦ isnt
    ])
