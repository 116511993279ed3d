-- The law of the reader for whole rows, and what follows for those that read and write.
use Rattle.std.proofs.Common.{◌≡◌, ℕ, zero, suc, ◌<◌, List, [], ◌∷◌, Option, Some, None, Result, Ok, Err, IfOk, refl, sym, ap, subst, ◌∙◌, arith}
use Rattle.std.specs.List.{AllByRecursion}
use Rattle.shop_defs.specs.declared.row.Row.{Row}
use Rattle.shop_defs.specs.declared.op.Op.{Op}
use Rattle.shop_defs.specs.declared.value.Value.{Value}
use Rattle.shop_defs.specs.declared.key.Key.{Key}
use Rattle.shop_kept.specs.declared.fault.DecodeFault.{DecodeFault}
use Rattle.shop_kept.specs.declared.fault.DecodeFault.TheVariants as F
use Rattle.shop_kept.specs.Readers.{Gives, ◌>>=◌}
use Rattle.shop_kept.specs.Spelling.{kept_row, IsKeptRow}
use Rattle.shop_kept.specs.Reading.{body_at, row_parts, read_kept}
use Rattle.shop_kept.specs.Laws.{SpellingsDiffer, SpellingsAreRead, NothingElseIsRead}
use Rattle.shop_kept.proofs.Readable.{IsBytes, IsBytes-rest, some_is, bind_some, whole_takes, whole_again}
use Rattle.shop_kept.proofs.Operations.{kept_body, IsBody, read_body}

abbrev pub Body : Type 0
Body = List (ℕ × Value) × List Op

abbrev body_of : Row → Body
body_of row = (row.fields, row.ops)

abbrev row_of : Key → Body → Row
row_of key body = record { key = key; fields = body.0; ops = body.1 }

row_takes : (bytes : List ℕ) (p : Body) → IsBytes bytes → row_parts bytes ≡ Some p → IsBody p × (1 ∷ kept_body p ≡ bytes)
unfolding row_parts
row_takes [] p fits e = absurd cc
row_takes (zero ∷ bytes) p fits e = absurd cc
row_takes (suc zero ∷ bytes) p fits e =
    let t = whole_takes kept_body IsBody body_at read_body bytes p (IsBytes-rest 1 bytes fits) e in
    (t.1, ap (λ (w : List ℕ). 1 ∷ w) (sym t.0))
row_takes (suc (suc b) ∷ bytes) p fits e = absurd cc

row_again : (p : Body) → IsBody p → row_parts (1 ∷ kept_body p) ≡ Some p
unfolding row_parts
row_again p fits = whole_again kept_body IsBody body_at read_body p fits

pub is_found : (key : Key) (bytes : List ℕ) (r : Result Row DecodeFault) → IsBytes bytes → Gives body_of r (row_parts bytes) → IfOk r (λ row. row.key ≡ key) → IfOk r (λ row. (row.key ≡ key) × IsKeptRow row × (kept_row row ≡ bytes))
is_found key bytes (Ok r) fits given at = let t = row_takes bytes (body_of r) fits given in (at, t.0, t.1)
is_found key bytes (Err e) fits given at = tt

pub is_read : (key : Key) (bytes : List ℕ) (r : Result Row DecodeFault) → Gives body_of r (row_parts bytes) → IfOk r (λ row. row.key ≡ key) → (row : Row) → row.key ≡ key → IsKeptRow row → kept_row row ≡ bytes → Gives (λ (x : Row). x) r (Some row)
is_read key bytes (Ok r) given at row e fits spelled =
    let k : row.key ≡ r.key = e ∙ sym at in
    let a : row_parts bytes ≡ Some (body_of row) = ap row_parts (sym spelled) ∙ row_again (body_of row) fits in
    let same : body_of row ≡ body_of r = some_is _ _ (sym a ∙ given) in
    λ i. Some (record { key = k i; fields = (same i).0; ops = (same i).1 })
is_read key bytes (Err F.Malformed) given at row e fits spelled =
    let a : row_parts bytes ≡ Some (body_of row) = ap row_parts (sym spelled) ∙ row_again (body_of row) fits in
    let no_body : Option Body = None in
    let clash : no_body ≡ Some (body_of row) = sym given ∙ a in
    absurd cc
is_read key bytes (Err F.NoMemory) given at row e fits spelled = tt

abbrev with_key : Key → Option Body → Option Row
with_key key r = r >>= λ p. Some (row_of key p)

pub is_exact : (key : Key) (bytes : List ℕ) (r : Result Row DecodeFault) → Gives body_of r (row_parts bytes) → IfOk r (λ row. row.key ≡ key) → Gives (λ (x : Row). x) r (read_kept key bytes)
is_exact key bytes (Ok r) given at = ap (with_key key) given ∙ ap (λ (k : Key). Some (row_of k (body_of r))) (sym at)
is_exact key bytes (Err F.Malformed) given at = ap (with_key key) given
is_exact key bytes (Err F.NoMemory) given at = tt

pub spellings_are_read : SpellingsAreRead
spellings_are_read row fits = ap (with_key row.key) (row_again (body_of row) fits)

pub spellings_differ : SpellingsDiffer
spellings_differ one other fits fits_too key bytes =
    let same : body_of one ≡ body_of other = some_is _ _ (sym (row_again (body_of one) fits) ∙ ap row_parts bytes ∙ row_again (body_of other) fits_too) in
    λ i. record { key = key i; fields = (same i).0; ops = (same i).1 }

all_bytes : (bytes : List ℕ) → AllByRecursion (λ byte. byte < 256) bytes → IsBytes bytes
all_bytes [] all i = omega arith
all_bytes (b ∷ bytes) all zero = all.0
all_bytes (b ∷ bytes) all (suc i) = all_bytes bytes all.1 i

pub nothing_else_is_read : NothingElseIsRead
nothing_else_is_read key bytes row all e =
    let b = bind_some (row_parts bytes) (λ p. Some (row_of key p)) row e in
    let same : row_of key b.0 ≡ row = some_is _ _ b.2 in
    let t = row_takes bytes b.0 (all_bytes bytes all) b.1 in
    subst (λ (x : Row). (x.key ≡ key) × IsKeptRow x × (kept_row x ≡ bytes)) same (refl, t.0, t.1)
