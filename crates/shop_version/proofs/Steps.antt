-- Steps of the loops that find what is of a draft.
use Rattle.std.proofs.Common.{◌≡◌, ◌<◌, ◌+◌, ℕ, Bool, List, [], ◌∷◌, ◌++◌, length, get_or, drop, drop-cons, add-one, append_assoc, filter, map, arith, refl, sym, ap, ◌∙◌}
use Rattle.std.proofs.lemmas.List.{map-append}
use Rattle.shop_defs.specs.declared.key.Key.{Key}
use Rattle.shop_defs.specs.declared.row.Row.{Row}
use Rattle.shop_defs.specs.Rows.{row_key}
use Rattle.shop_drafts.specs.Drafts.{commit_key}
use Rattle.shop_drafts.specs.declared.aggregate.Member.{Member}
use Rattle.shop_version.specs.Taking.{parts, numbers, commit_keys}
use Rattle.shop_version.proofs.Commits.{numbers_more}

-- the keys of one member's rows more
pub parts_step : (p : Row → Member → Bool) (rows : List Row) (keys found : List Key) (members : List Member) (i : ℕ) (member : Member) → i < length members → member ≡ get_or members i member
    → found ≡ map row_key (filter (λ row. p row member) rows) → (keys ++ found) ++ map row_key (parts p (drop (i + 1) members) rows) ≡ keys ++ map row_key (parts p (drop i members) rows)
parts_step p rows keys found members i member low e f =
    let rest : List Key = map row_key (parts p (drop (i + 1) members) rows) in
    let next : drop i members ≡ member ∷ drop (i + 1) members = rw (drop-cons members i member low, add-one i, ← e) refl in
    let all : map row_key (parts p (drop i members) rows) ≡ map row_key (filter (λ row. p row member) rows) ++ rest =
    ap (λ ms. map row_key (parts p ms rows)) next ∙ map-append row_key (filter (λ row. p row member) rows) (parts p (drop (i + 1) members) rows) in
    let again : (keys ++ found) ++ rest ≡ keys ++ (found ++ rest) = simp append_assoc in
    again ∙ ap (λ ks. keys ++ ks) (ap (λ ks. ks ++ rest) f ∙ sym all)

-- the key of one commit more
pub commits_step : (version : ℕ) (before keys : List Key) (number : ℕ) (key : Key) → keys ≡ before ++ commit_keys version (numbers 1 number) → key ≡ commit_key version (number + 1)
    → keys ++ key ∷ [] ≡ before ++ commit_keys version (numbers 1 (number + 1))
commits_step version before keys number key e f =
    let one : 1 + number ≡ number + 1 = omega arith in
    let more : numbers 1 (number + 1) ≡ numbers 1 number ++ (number + 1) ∷ [] = ap (numbers 1) (add-one number) ∙ (numbers_more 1 number ∙ ap (λ n. numbers 1 number ++ n ∷ []) one) in
    let all : commit_keys version (numbers 1 (number + 1)) ≡ commit_keys version (numbers 1 number) ++ commit_key version (number + 1) ∷ [] =
    ap (commit_keys version) more ∙ map-append (commit_key version) (numbers 1 number) ((number + 1) ∷ []) in
    let again : (before ++ commit_keys version (numbers 1 number)) ++ commit_key version (number + 1) ∷ [] ≡ before ++ (commit_keys version (numbers 1 number) ++ commit_key version (number + 1) ∷ []) = simp append_assoc in
    ap (λ ks. ks ++ key ∷ []) e ∙ (ap (λ k. (before ++ commit_keys version (numbers 1 number)) ++ k ∷ []) f ∙ (again ∙ ap (λ ks. before ++ ks) (sym all)))
