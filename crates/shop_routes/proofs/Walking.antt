-- What a router's parameters hold is what the tokens of its row take, and it is text.
use Rattle.std.proofs.Common.{◌≡◌, inl, inr, ℕ, suc, ◌+◌, ◌-◌, ◌<◌, ◌≤◌, ◌^◌, List, [], ◌∷◌, ◌++◌, length, take, drop, Some, None, Bool, true, false, cond, refl, sym, ap, ◌∙◌, arith, ◌==◌, ltb, leb, ◌&&◌, get_or, add-one, IsUtf8, IsCharBoundary}
use Rattle.std.proofs.lemmas.Bool.Decides.{nat_tests}
use Rattle.std.proofs.lemmas.Bool.{cases_Bool}
use Rattle.std.proofs.lemmas.List.{drop-drop, length-drop, append-nil, length-append}
use Rattle.std.proofs.lemmas.Str.{IsUtf8-take, IsUtf8-drop, IsCharBoundary-end, IsCharBoundary-before_ascii, IsCharBoundary-after_ascii}
use Rattle.matchit.specs.Params.{walk, wild_from, wild_stop, part_of, after_token}
use Rattle.matchit.specs.Seek.{segment}
use Rattle.shop_routes.specs.PathParts.{Parts}
use Rattle.shop_routes.proofs.Tokens.{before, after, taken, after_joins}
use Rattle.shop_routes.proofs.Seeking.{is_good, is_end, token_good, some_text, segment_split, drop_before, drop_front}

-- each name that stands at these places of a text, with what it took
abbrev pub zipped : List ℕ → List (ℕ × ℕ) → List (List ℕ) → Parts
zipped text [] texts = []
zipped text (name ∷ names) [] = []
zipped text (name ∷ names) (x ∷ texts) = (part_of text name.0 name.1, x) ∷ zipped text names texts

-- how many parameters stand among tokens
abbrev pub params : List ℕ → ℕ
params [] = 0
params (x ∷ t) = cond (x == 256) (suc (params t)) (params t)

take_before : (q : List ℕ) → take (length (before q)) q ≡ before q
take_before [] = refl
take_before (b ∷ rest) = elim (cases_Bool (b == 47)) [ inl slash ↦ rw slash refl | inr other ↦ rw other (ap (λ (l : List ℕ). b ∷ l) (take_before rest)) ]

before_within : (q : List ℕ) → length (before q) ≤ length q
before_within [] = omega arith
before_within (b ∷ rest) = elim (cases_Bool (b == 47)) [ inl slash ↦ rw slash (omega arith) | inr other ↦ rw other (let m = before_within rest in omega arith) ]

-- one literal token
pub literal_taken : (x : ℕ) (t q : List ℕ) (texts : List (List ℕ)) → x < 128 → taken (x ∷ t) q ≡ Some texts → (rest : List ℕ) × (q ≡ x ∷ rest) × (taken t rest ≡ Some texts)
literal_taken x t [] texts low e = absurd cc
literal_taken x t (b ∷ rest) texts low e =
    let byte : (x == 256) ≡ false = grind (arith, nat_tests) in
    let f : cond (x == b) (taken t rest) None ≡ Some texts = rw byte at e in
    elim (cases_Bool (x == b)) [
      | inl same ↦ let is : x ≡ b = grind (arith, nat_tests) in (rest, ap (λ k. k ∷ rest) (sym is), rw same at f)
      | inr other ↦ absurd (let none : None ≡ Some texts = rw other at f in cc)
    ]

-- one parameter
pub param_taken : (t q : List ℕ) (texts : List (List ℕ)) → taken (256 ∷ t) q ≡ Some texts
    → (0 < length (before q)) × ((more : List (List ℕ)) × (taken t (after q) ≡ Some more) × (texts ≡ before q ∷ more))
param_taken t [] texts e = absurd cc
param_taken t (b ∷ rest) texts e = some_text (before (b ∷ rest)) (taken t (after (b ∷ rest))) texts e

before_after : (q : List ℕ) → before q ++ after q ≡ q
before_after [] = refl
before_after (b ∷ rest) = elim (cases_Bool (b == 47)) [ inl slash ↦ rw slash refl | inr other ↦ rw other (ap (λ (l : List ℕ). b ∷ l) (before_after rest)) ]

and_false : (a b : Bool) → b ≡ false → (m n : ℕ) → cond (a && b) m n ≡ n
and_false true b e m n = rw e refl
and_false false b e m n = refl

taken_end : (rest : List ℕ) (texts : List (List ℕ)) → taken [] rest ≡ Some texts → rest ≡ []
taken_end [] texts e = refl
taken_end (b ∷ rest) texts e = absurd cc

taken_more : (x : ℕ) (t rest : List ℕ) (texts : List (List ℕ)) → taken (x ∷ t) rest ≡ Some texts → (b : ℕ) × (more : List ℕ) × (rest ≡ b ∷ more)
taken_more x t [] texts e = absurd cc
taken_more x t (b ∷ rest) texts e = (b, rest, refl)

-- where a parameter stops: behind the first piece of what is left
module _ (pattern path : List ℕ) (token at : ℕ) where
  stop_at : (t : List ℕ) (more : List (List ℕ)) → drop token pattern ≡ 256 ∷ t → is_end t ≡ true → 0 < length (before (drop at path)) → taken t (after (drop at path)) ≡ Some more
      → wild_stop pattern token path at ≡ at + length (before (drop at path))
  stop_at [] more is end some takes =
      let front = drop_front pattern [] 256 token is in
      let size : length pattern - suc token ≡ 0 = sym (length-drop (suc token) pattern) ∙ ap length front.2 in
      let no : ltb (token + 1) (length pattern) ≡ false = grind (arith, nat_tests) in
      let none : after (drop at path) ≡ [] = taken_end (after (drop at path)) more takes in
      let whole : before (drop at path) ++ [] ≡ drop at path = rw none at (before_after (drop at path)) in
      let long : length (before (drop at path)) ≡ length path - at = ap length (sym (append-nil (before (drop at path))) ∙ whole) ∙ length-drop at path in
      and_false (ltb token (length pattern) && (get_or pattern token 0 == 256)) (ltb (token + 1) (length pattern)) no
      (at + length (segment (drop at path)) - length (segment (drop (token + 1) pattern))) (length path)
      ∙ omega arith
  stop_at (y ∷ t) more is end some takes =
      let front = drop_front pattern (y ∷ t) 256 token is in
      let within = front.0 in
      let wild = front.1 in
      let rest : drop (token + 1) pattern ≡ y ∷ t = rw add-one front.2 in
      let size : suc (length t) ≡ length pattern - (token + 1) = sym (ap length rest) ∙ length-drop (token + 1) pattern in
      let t1 : ltb token (length pattern) ≡ true = grind (arith, nat_tests) in
      let t2 : (get_or pattern token 0 == 256) ≡ true = grind (arith, nat_tests) in
      let t3 : ltb (token + 1) (length pattern) ≡ true = grind (arith, nat_tests) in
      let left = taken_more y t (after (drop at path)) more takes in
      let piece : segment (drop at path) ≡ before (drop at path) ++ 47 ∷ [] = segment_split (drop at path) ∙ (rw left.2 refl) in
      let long : length (segment (drop at path)) ≡ length (before (drop at path)) + 1 = ap length piece ∙ length-append (before (drop at path)) (47 ∷ []) in
      rw (t1, t2, t3, rest, end) (omega arith)

  -- what it takes
  part_at : 0 < length (before (drop at path)) → part_of path at (at + length (before (drop at path))) ≡ before (drop at path)
  part_at some =
      let fits = before_within (drop at path) in
      let size = length-drop at path in
      let t1 : leb at (at + length (before (drop at path))) ≡ true = grind (arith, nat_tests) in
      let t2 : leb (at + length (before (drop at path))) (length path) ≡ true = grind (arith, nat_tests) in
      let n : at + length (before (drop at path)) - at ≡ length (before (drop at path)) = omega arith in
      rw (t1, t2, n) (take_before (drop at path))

-- a name with what it took, and what the names behind it took, where the next parameter stands at these places
abbrev step_from : List ℕ → List ℕ → List ℕ → ℕ × ℕ → List (ℕ × ℕ) → ℕ × ℕ → Parts
step_from pattern text path name names w =
    (part_of text name.0 name.1, part_of path w.1 (wild_stop pattern w.0 path w.1)) ∷ walk pattern text path names (after_token w.0) (wild_stop pattern w.0 path w.1)

over_literal : (x : ℕ) (t : List ℕ) (len token at : ℕ) → x < 128 → at < len → wild_from (x ∷ t) len token at ≡ wild_from t len (token + 1) (at + 1)
over_literal x t len token at low within =
    let t1 : ltb x 256 ≡ true = grind (arith, nat_tests) in
    let t2 : ltb at len ≡ true = grind (arith, nat_tests) in
    rw (t1, t2) refl

-- from a place in the pattern and one in the path
pub walked : (pattern text path : List ℕ) → length pattern < 2 ^ 32 → (t : List ℕ) (token at : ℕ) (texts : List (List ℕ)) (names : List (ℕ × ℕ)) → is_good t ≡ true → params t ≡ length names
    → drop token pattern ≡ t → taken t (drop at path) ≡ Some texts
    → walk pattern text path names token at ≡ zipped text names texts
walked pattern text path short t token at texts [] good count is takes = refl
walked pattern text path short [] token at texts (name ∷ names) good count is takes = absurd (omega arith)
walked pattern text path short (x ∷ t) token at texts (name ∷ names) good count is takes =
    let g = token_good x t good in
    let front = drop_front pattern t x token is in
    let rest : drop (token + 1) pattern ≡ t = rw add-one front.2 in
    elim g.0 [
      | inl low ↦
          let m = literal_taken x t (drop at path) texts low takes in
          let here = drop_front path m.0 x at m.1 in
          let left : drop (at + 1) path ≡ m.0 = rw add-one here.2 in
          let byte : (x == 256) ≡ false = grind (arith, nat_tests) in
          let from : wild_from (drop token pattern) (length path) token at ≡ wild_from (drop (token + 1) pattern) (length path) (token + 1) (at + 1) =
          rw (is, rest) (over_literal x t (length path) token at low here.0) in
          ap (step_from pattern text path name names) from
          ∙ walked pattern text path short t (token + 1) (at + 1) texts (name ∷ names) g.1 (rw byte at count) rest (rw left m.2)
      | inr param ↦
          let wild : drop token pattern ≡ 256 ∷ t = rw param.0 at is in
          let wild_takes : taken (256 ∷ t) (drop at path) ≡ Some texts = sym (ap (λ k. taken (k ∷ t) (drop at path)) param.0) ∙ takes in
          let p = param_taken t (drop at path) texts wild_takes in
          let is_param = param.0 in
          let test : (x == 256) ≡ true = grind (arith, nat_tests) in
          let counted : suc (params t) ≡ suc (length names) = rw test at count in
          let some = p.0 in
          let n : ℕ = length (before (drop at path)) in
          let from : wild_from (drop token pattern) (length path) token at ≡ (token, at) = rw wild refl in
          let stop : wild_stop pattern token path at ≡ at + n = stop_at pattern path token at t p.1.0 wild param.1 some p.1.1 in
          let within = front.0 in
          let next : after_token token ≡ token + 1 = omega arith in
          let left : drop (at + n) path ≡ after (drop at path) = sym (drop-drop n at path) ∙ drop_before (drop at path) in
          let more : walk pattern text path names (token + 1) (at + n) ≡ zipped text names p.1.0 =
          walked pattern text path short t (token + 1) (at + n) p.1.0 names g.1 (omega arith) rest (rw left p.1.1) in
          ap (step_from pattern text path name names) from ∙ rw (stop, next, part_at pattern path token at some, more) (ap (zipped text (name ∷ names)) (sym p.1.2))
    ]

-- ---- what is taken is text

-- each of these is text
abbrev pub AreTexts : List (List ℕ) → Type 0
AreTexts [] = Unit {0}
AreTexts (text ∷ texts) = IsUtf8 text × AreTexts texts

piece_edge : (q rest : List ℕ) → after q ≡ rest → IsCharBoundary q (length (before q))
piece_edge q [] none =
    let whole : before q ++ [] ≡ q = rw none at (before_after q) in
    let is : before q ≡ q = sym (append-nil (before q)) ∙ whole in
    rw is (IsCharBoundary-end q)
piece_edge q (c ∷ rest) left =
    let here = drop_front q rest c (length (before q)) (drop_before q ∙ left) in
    let slash : c ≡ 47 = rw left at (after_joins q) in
    IsCharBoundary-before_ascii q (length (before q)) here.0 (rw (here.1, slash) (omega arith))

before_text : (q : List ℕ) → IsUtf8 q → IsUtf8 (before q) × IsUtf8 (after q)
before_text q text =
    let edge = piece_edge q (after q) refl in (
      rw take_before at (IsUtf8-take q (length (before q)) text edge),
      rw drop_before at (IsUtf8-drop q (length (before q)) text edge),
    )

pub taken_texts : (t q : List ℕ) (texts : List (List ℕ)) → is_good t ≡ true → IsUtf8 q → taken t q ≡ Some texts → AreTexts texts
taken_texts [] [] texts good text e = let none : texts ≡ [] = cc in rw none tt
taken_texts [] (b ∷ rest) texts good text e = absurd cc
taken_texts (x ∷ t) q texts good text e =
    let g = token_good x t good in
    elim g.0 [
      | inl low ↦
          let m = literal_taken x t q texts low e in
          let whole : IsUtf8 (x ∷ m.0) = rw m.1 at text in
          let within : 0 < length (x ∷ m.0) = omega arith in
          taken_texts t m.0 texts g.1 (IsUtf8-drop (x ∷ m.0) 1 whole (IsCharBoundary-after_ascii (x ∷ m.0) 0 whole within low)) m.2
      | inr param ↦
          let p = param_taken t q texts (sym (ap (λ k. taken (k ∷ t) q) param.0) ∙ e) in
          let both = before_text q text in
          rw p.1.2 (both.0, taken_texts t (after q) p.1.0 g.1 both.1 p.1.1)
    ]
