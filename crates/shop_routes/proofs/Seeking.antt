-- What a router answers for a path fits a row of it, and where a path fits a row it answers.
use Rattle.std.proofs.Common.{◌≡◌, ◌≢◌, ◌⊎◌, inl, inr, ℕ, zero, suc, ◌+◌, ◌-◌, ◌<◌, ◌≤◌, List, [], ◌∷◌, ◌++◌, length, drop, Option, Some, None, Bool, true, false, cond, refl, sym, ap, ◌∙◌, arith, ◌==◌, ltb, ◌&&◌, ◌||◌, nat_eq, get_or, is_some}
use Rattle.std.proofs.lemmas.Bool.Decides.{nat_tests}
use Rattle.std.proofs.lemmas.Bool.{cases_Bool, and_parts}
use Rattle.std.proofs.lemmas.Slice.Eq.{bytes_eq-Decides}
use Rattle.std.proofs.Math.Seq.{drop-append_seam}
use Rattle.std.proofs.lemmas.List.{append-nil, length-append}
use Rattle.std.specs.List.{ends_with}
use Rattle.matchit.specs.Rows.{RowsOf, param_token, catch_all_token}
use Rattle.matchit.specs.Seek.{own, step, or_else, seek, param_step, has_slash, segment, cuts, better, longest_from, longest_suffix, with_suffix, same_text}
use Rattle.shop_routes.proofs.Tokens.{before, after, with_text, taken}

-- where a parameter ends: before its suffix, at the end of the segment, or at the end of the path
pub record Takes (t whole : List ℕ) (n : ℕ) : Type 0 where
  pub ends : ((0 < length (segment t)) × (n ≡ length (segment whole) - length (segment t)) × (cuts (segment whole) (segment t) ≡ true)) ⊎ ((has_slash whole ≡ false) × (n ≡ length whole))

-- the path, after some bytes, fits the pattern
abbrev pub Fits : ℕ → List ℕ → List ℕ → Type 0
Fits skip t [] = t ≡ []
Fits (suc k) t (b ∷ path) = Fits k t path
Fits zero [] (b ∷ path) = ⊥
Fits zero (x ∷ t) (b ∷ path) =
    ((x ≡ b) × Fits 0 t path) ⊎ (((x ≡ param_token) × (n : ℕ) × Takes t (b ∷ path) n × Fits (n - 1) t path) ⊎ (x ≡ catch_all_token))

better_cuts : (seg best u : List ℕ) (test : Bool) → ltb (length best) (length u) && cuts seg u ≡ test → (length best ≡ 0) ⊎ (cuts seg best ≡ true)
    → (length (cond test u best) ≡ 0) ⊎ (cuts seg (cond test u best) ≡ true)
better_cuts seg best u true e h = inr ((and_parts (ltb (length best) (length u)) (cuts seg u) e).1)
better_cuts seg best u false e h = h

module _ {K : Type 0} where
  -- the row is among these
  abbrev pub Has : List ℕ → K → RowsOf K → Type 0
  Has t e [] = ⊥
  Has t e ((u, k) ∷ rest) = ((t ≡ u) × (e ≡ k)) ⊎ Has t e rest

  own_has : (rs : RowsOf K) (e : K) → own rs ≡ Some e → Has [] e rs
  own_has [] e h = cc
  own_has (([], k) ∷ rest) e h = inl (refl, cc)
  own_has ((x ∷ u, k) ∷ rest) e h = inr (own_has rest e h)

  step_has : (b : ℕ) (rs : RowsOf K) (t : List ℕ) (e : K) → Has t e (step b rs) → Has (b ∷ t) e rs
  step_has b [] t e h = h
  step_has b (([], k) ∷ rest) t e h = inr (step_has b rest t e h)
  step_has b ((x ∷ u, k) ∷ rest) t e h = elim (cases_Bool (x == b)) [
    | inl same ↦
        let is : x ≡ b = grind (arith, nat_tests) in
        let kept : ((t ≡ u) × (e ≡ k)) ⊎ Has t e (step b rest) = rw same at h in
        elim kept [ inl here ↦ inl (rw (is, here.0) refl, here.1) | inr later ↦ inr (step_has b rest t e later) ]
    | inr other ↦ inr (step_has b rest t e (rw other at h))
  ]

  with_suffix_has : (s : List ℕ) (rs : RowsOf K) (t : List ℕ) (e : K) → Has t e (with_suffix s rs) → Has t e rs × (segment t ≡ s)
  with_suffix_has s [] t e h = absurd h
  with_suffix_has s ((u, k) ∷ rest) t e h = elim (cases_Bool (same_text (segment u) s)) [
    | inl same ↦
        let is : segment u ≡ s = (bytes_eq-Decides (segment u) s).0 same in
        let kept : ((t ≡ u) × (e ≡ k)) ⊎ Has t e (with_suffix s rest) = rw same at h in
        elim kept [
          | inl here ↦ (inl here, ap segment here.0 ∙ is)
          | inr later ↦ let more = with_suffix_has s rest t e later in (inr more.0, more.1)
        ]
    | inr other ↦ let more = with_suffix_has s rest t e (rw other at h) in (inr more.0, more.1)
  ]

  longest_cuts : (seg best : List ℕ) (rs : RowsOf K) → (length best ≡ 0) ⊎ (cuts seg best ≡ true)
      → (length (longest_from seg best rs) ≡ 0) ⊎ (cuts seg (longest_from seg best rs) ≡ true)
  longest_cuts seg best [] h = h
  longest_cuts seg best ((u, k) ∷ rest) h =
      longest_cuts seg (better seg best (segment u)) rest (better_cuts seg best (segment u) _ refl h)

  taken_has : (rs : RowsOf K) (whole t : List ℕ) (e : K) (some slash : Bool) → ltb 0 (length (longest_suffix (segment whole) rs)) ≡ some → has_slash whole ≡ slash
      → let found : ℕ × RowsOf K = cond some (length (segment whole) - length (longest_suffix (segment whole) rs), with_suffix (longest_suffix (segment whole) rs) rs) (cond slash (0, []) (length whole, rs))
      in Has t e found.1 → Has t e rs × Takes t whole found.0
  taken_has rs whole t e true slash is_some is_slash h =
      let kept = with_suffix_has (longest_suffix (segment whole) rs) rs t e h in
      let long : 0 < length (longest_suffix (segment whole) rs) = grind (arith, nat_tests) in
      let cut : cuts (segment whole) (longest_suffix (segment whole) rs) ≡ true = elim (longest_cuts (segment whole) [] rs (inl refl)) [ inl none ↦ absurd (omega arith) | inr good ↦ good ] in
      (kept.0, record { ends = rw kept.1 (inl (long, refl, cut)) })
  taken_has rs whole t e false true is_some is_slash h = absurd h
  taken_has rs whole t e false false is_some is_slash h = (h, record { ends = inr (is_slash, refl) })

  param_has : (rs : RowsOf K) (whole t : List ℕ) (e : K) → Has t e (param_step rs whole).1 → Has t e rs × Takes t whole (param_step rs whole).0
  unfolding param_step
  param_has rs whole t e h = taken_has rs whole t e _ _ refl refl h

  or_cases : (a o : Option K) (e : K) → or_else a o ≡ Some e → (a ≡ Some e) ⊎ (o ≡ Some e)
  or_cases None o e h = inr h
  or_cases (Some k) o e h = inl h

  pub fits_found : (path : List ℕ) (skip : ℕ) (rs : RowsOf K) (e : K) → seek skip rs path ≡ Some e → (t : List ℕ) × Has t e rs × Fits skip t path
  unfolding seek
  fits_found [] skip rs e h = ([], own_has rs e h, refl)
  fits_found (b ∷ path) (suc k) rs e h = fits_found path k rs e h
  fits_found (b ∷ path) zero rs e h = elim (or_cases _ _ e h) [
    | inl byte ↦ let m = fits_found path 0 (step b rs) e byte in (b ∷ m.0, step_has b rs m.0 e m.1, inl (refl, m.2))
    | inr more ↦ elim (or_cases _ _ e more) [
      | inl param ↦
          let m = fits_found path ((param_step (step param_token rs) (b ∷ path)).0 - 1) (param_step (step param_token rs) (b ∷ path)).1 e param in
          let p = param_has (step param_token rs) (b ∷ path) m.0 e m.1 in
          (param_token ∷ m.0, step_has param_token rs m.0 e p.0, inr (inl (refl, _, p.1, m.2)))
      | inr all ↦ (catch_all_token ∷ [], step_has catch_all_token rs [] e (own_has (step catch_all_token rs) e all), inr (inr refl))
    ]
  ]

-- ---- a path that fits is taken

-- each token is an ASCII byte, or a parameter with a slash or the end behind it
abbrev pub is_end : List ℕ → Bool
is_end [] = true
is_end (y ∷ t) = y == 47

abbrev pub is_good : List ℕ → Bool
is_good [] = true
is_good (x ∷ t) = (ltb x 128 || ((x == 256) && is_end t)) && is_good t

or_cases2 : (a b : Bool) → a || b ≡ true → (a ≡ true) ⊎ (b ≡ true)
or_cases2 true b e = inl refl
or_cases2 false b e = inr e

pub token_good : (x : ℕ) (t : List ℕ) → is_good (x ∷ t) ≡ true → ((x < 128) ⊎ ((x ≡ 256) × (is_end t ≡ true))) × (is_good t ≡ true)
token_good x t g =
    let both = and_parts (ltb x 128 || ((x == 256) && is_end t)) (is_good t) g in (
      elim (or_cases2 (ltb x 128) ((x == 256) && is_end t) both.0) [
        | inl a ↦ inl (grind (arith, nat_tests))
        | inr p ↦
            let q = and_parts (x == 256) (is_end t) p in
            let param = q.0 in
            let is : x ≡ 256 = grind (arith, nat_tests) in
            inr (is, q.1)
      ],
      both.1,
    )

fits_drop : (k : ℕ) (t p : List ℕ) → Fits k t p → Fits 0 t (drop k p)
fits_drop zero t p f = f
fits_drop (suc k) t [] f = f
fits_drop (suc k) t (b ∷ p) f = fits_drop k t p f

-- the slash that stands behind the first piece, if one does
abbrev pub slash_of : List ℕ → List ℕ
slash_of [] = []
slash_of (b ∷ rest) = 47 ∷ []

pub segment_split : (q : List ℕ) → segment q ≡ before q ++ slash_of (after q)
segment_split [] = refl
segment_split (b ∷ rest) = elim (cases_Bool (b == 47)) [
  | inl slash ↦ let is : b ≡ 47 = grind (arith, nat_tests) in rw (slash, is) refl
  | inr other ↦ rw other (ap (λ (l : List ℕ). b ∷ l) (segment_split rest))
]

pub drop_before : (q : List ℕ) → drop (length (before q)) q ≡ after q
drop_before [] = refl
drop_before (b ∷ rest) = elim (cases_Bool (b == 47)) [ inl slash ↦ rw slash refl | inr other ↦ rw other (drop_before rest) ]

no_slash : (q : List ℕ) → has_slash q ≡ false → (after q ≡ []) × (before q ≡ q)
no_slash [] h = (refl, refl)
no_slash (b ∷ rest) h = elim (cases_Bool (b == 47)) [
  | inl slash ↦ absurd (let e : true ≡ false = rw slash at h in cc)
  | inr other ↦ let more = no_slash rest (rw other at h) in rw other (more.0, ap (λ (l : List ℕ). b ∷ l) more.1)
]

pub drop_front : (xs rest : List ℕ) (x i : ℕ) → drop i xs ≡ x ∷ rest → (i < length xs) × (get_or xs i 0 ≡ x) × (drop (suc i) xs ≡ rest)
drop_front [] rest x zero e = absurd cc
drop_front [] rest x (suc i) e = absurd cc
drop_front (y ∷ ys) rest x zero e = (omega arith, cc, cc)
drop_front (y ∷ ys) rest x (suc i) e = let m = drop_front ys rest x i e in (omega arith, m.1, m.2)

pub none_left : (xs : List ℕ) (i : ℕ) → length xs ≤ i → drop i xs ≡ []
none_left [] zero h = refl
none_left [] (suc i) h = refl
none_left (y ∷ ys) zero h = absurd (omega arith)
none_left (y ∷ ys) (suc i) h = none_left ys i (omega arith)

segment_end : (t : List ℕ) → is_end t ≡ true → 0 < length (segment t) → segment t ≡ 47 ∷ []
segment_end [] e h = absurd (omega arith)
segment_end (y ∷ t) e h = let is : y ≡ 47 = grind (arith, nat_tests) in rw (e, is) refl

-- the list ends with a slash
last_is : (s : List ℕ) → cuts s (47 ∷ []) ≡ true → (1 < length s) × (get_or s (length s - 1) 0 ≡ 47)
last_is s e =
    let both = and_parts (ltb 1 (length s)) (ends_with nat_eq s (47 ∷ [])) e in
    let first = both.0 in
    let long : 1 < length s = grind (arith, nat_tests) in
    let ends = (bytes_eq-Decides (47 ∷ []) (drop (length s - 1) s)).0 both.1 in
    (long, (drop_front s [] 47 (length s - 1) (sym ends)).1)

-- no slash stands in the first piece
before_clean : (q : List ℕ) (i : ℕ) → i < length (before q) → get_or (before q) i 0 ≢ 47
before_clean [] i h e = absurd (omega arith)
before_clean (b ∷ rest) zero h e = elim (cases_Bool (b == 47)) [
  | inl slash ↦ let none : 0 < 0 = rw slash at h in absurd (omega arith)
  | inr other ↦ let is : b ≡ 47 = rw other at e in absurd (grind (arith, nat_tests))
]
before_clean (b ∷ rest) (suc i) h e = elim (cases_Bool (b == 47)) [
  | inl slash ↦ let none : suc i < 0 = rw slash at h in absurd (omega arith)
  | inr other ↦ let within : suc i < suc (length (before rest)) = rw other at h in before_clean rest i (omega arith) (rw other at e)
]

-- a segment that ends with a slash is the first piece and that slash
cut_piece : (q : List ℕ) → cuts (segment q) (47 ∷ []) ≡ true → (0 < length (before q)) × (length (segment q) ≡ length (before q) + 1)
cut_piece q cut = go (after q) (segment_split q)
  where
    go : (rest : List ℕ) → segment q ≡ before q ++ slash_of rest → (0 < length (before q)) × (length (segment q) ≡ length (before q) + 1)
    go [] e =
        let last = last_is (segment q) cut in
        let is : segment q ≡ before q = e ∙ append-nil (before q) in
        let long : 1 < length (before q) = rw is at last.0 in
        let slash : get_or (before q) (length (before q) - 1) 0 ≡ 47 = rw is at last.1 in
        absurd (before_clean q (length (before q) - 1) (omega arith) slash)
    go (c ∷ rest) e =
        let long : 1 < length (segment q) = (last_is (segment q) cut).0 in
        let size : length (segment q) ≡ length (before q) + 1 = ap length e ∙ length-append (before q) (47 ∷ []) in
        (omega arith, size)

-- how many bytes a parameter takes: the first piece of what is left
takes_piece : (t : List ℕ) (b : ℕ) (rest : List ℕ) (n : ℕ) → is_end t ≡ true → Takes t (b ∷ rest) n → (0 < length (before (b ∷ rest))) × (n ≡ length (before (b ∷ rest)))
takes_piece t b rest n end takes = elim takes.ends [
  | inl cut ↦
      let slash = segment_end t end cut.0 in
      let piece = cut_piece (b ∷ rest) (rw slash at cut.2) in
      let size = piece.1 in
      let one : length (segment t) ≡ 1 = ap length slash in
      let is = cut.1 in
      (piece.0, omega arith)
  | inr all ↦
      let none = no_slash (b ∷ rest) all.0 in
      let size : length (before (b ∷ rest)) ≡ length (b ∷ rest) = ap length none.1 in
      let is = all.1 in
      (rw size (omega arith), is ∙ sym size)
]

-- a text that isn't empty stands in front of texts
with_some : (text : List ℕ) (texts : List (List ℕ)) → 0 < length text → with_text text (Some texts) ≡ Some (text ∷ texts)
with_some [] texts h = absurd (omega arith)
with_some (b ∷ rest) texts h = refl

after_bytes : (q : List ℕ) → ((i : ℕ) → get_or q i 0 < 256) → (i : ℕ) → get_or (after q) i 0 < 256
after_bytes [] bytes i = bytes i
after_bytes (b ∷ rest) bytes i = elim (cases_Bool (b == 47)) [
  | inl slash ↦ rw slash (bytes i)
  | inr other ↦ rw other (after_bytes rest (λ k. bytes (suc k)) i)
]

-- a path that fits good tokens is taken by them
pub fits_taken : (t path : List ℕ) → is_good t ≡ true → ((i : ℕ) → get_or path i 0 < 256) → Fits 0 t path → (texts : List (List ℕ)) × (taken t path ≡ Some texts)
fits_taken [] [] good bytes f = ([], refl)
fits_taken [] (b ∷ path) good bytes f = absurd f
fits_taken (x ∷ t) [] good bytes f = absurd (let e : x ∷ t ≡ [] = f in cc)
fits_taken (x ∷ t) (b ∷ path) good bytes (inl same) =
    let g = token_good x t good in
    let m = fits_taken t path g.1 (λ i. bytes (suc i)) same.1 in
    let is : x ≡ b = same.0 in
    let small : b < 256 = bytes 0 in
    let byte : (x == 256) ≡ false = grind (arith, nat_tests) in
    let equal : (x == b) ≡ true = grind (arith, nat_tests) in
    (m.0, rw (byte, equal) m.1)
fits_taken (x ∷ t) (b ∷ path) good bytes (inr (inl param)) =
    let g = token_good x t good in
    let is : x ≡ 256 = param.0 in
    let wild : (x == 256) ≡ true = grind (arith, nat_tests) in
    let end : is_end t ≡ true = elim g.0 [ inl low ↦ absurd (omega arith) | inr p ↦ p.1 ] in
    let piece = takes_piece t b path param.1 end param.2 in
    let some = piece.0 in
    let size = piece.1 in
    let from : suc (param.1 - 1) ≡ length (before (b ∷ path)) = omega arith in
    let left : drop (param.1 - 1) path ≡ after (b ∷ path) = ap (λ k. drop k (b ∷ path)) from ∙ drop_before (b ∷ path) in
    let m = fits_taken t (after (b ∷ path)) g.1 (after_bytes (b ∷ path) bytes) (rw (← left) (fits_drop (param.1 - 1) t path param.3)) in
    (before (b ∷ path) ∷ m.0, rw (wild, m.1) (with_some (before (b ∷ path)) m.0 some))
fits_taken (x ∷ t) (b ∷ path) good bytes (inr (inr all)) =
    let g = token_good x t good in
    let is : x ≡ 257 = all in
    absurd (elim g.0 [ inl low ↦ omega arith | inr p ↦ let e : x ≡ 256 = p.0 in omega arith ])

-- ---- a path that is taken is answered

pub some_text : (text : List ℕ) (o : Option (List (List ℕ))) (texts : List (List ℕ)) → with_text text o ≡ Some texts
    → (0 < length text) × ((more : List (List ℕ)) × (o ≡ Some more) × (texts ≡ text ∷ more))
some_text [] o texts e = absurd cc
some_text (b ∷ rest) None texts e = absurd cc
some_text (b ∷ rest) (Some more) texts e = (omega arith, (more, refl, cc))

not_cut : (q : List ℕ) → after q ≡ [] → cuts (segment q) (47 ∷ []) ≡ false
not_cut q none = elim (cases_Bool (cuts (segment q) (47 ∷ []))) [
  | inl cut ↦
      let size = (cut_piece q cut).1 in
      let is : segment q ≡ before q = segment_split q ∙ (rw none (append-nil (before q))) in
      let same : length (segment q) ≡ length (before q) = ap length is in
      absurd (omega arith)
  | inr isnt ↦ isnt
]

slash_cuts : (front : List ℕ) → 0 < length front → cuts (front ++ 47 ∷ []) (47 ∷ []) ≡ true
slash_cuts front some =
    let size : length (front ++ 47 ∷ []) ≡ length front + 1 = length-append front (47 ∷ []) in
    let long : ltb 1 (length (front ++ 47 ∷ [])) ≡ true = grind (arith, nat_tests) in
    let back : drop (length (front ++ 47 ∷ []) - 1) (front ++ 47 ∷ []) ≡ 47 ∷ [] =
    let at : length (front ++ 47 ∷ []) - 1 ≡ length front = omega arith in rw at (drop-append_seam front (47 ∷ [])) in
    rw (long, back) refl

is_cut : (q rest : List ℕ) (c : ℕ) → 0 < length (before q) → after q ≡ c ∷ rest → cuts (segment q) (47 ∷ []) ≡ true
is_cut q rest c some left =
    let is : segment q ≡ before q ++ 47 ∷ [] = segment_split q ∙ (rw left refl) in
    rw is (slash_cuts (before q) some)

has_no_slash : (q : List ℕ) → after q ≡ [] → has_slash q ≡ false
has_no_slash [] e = refl
has_no_slash (b ∷ rest) e = elim (cases_Bool (b == 47)) [
  | inl slash ↦ absurd (let none : b ∷ rest ≡ [] = rw slash at e in cc)
  | inr other ↦ rw other (has_no_slash rest (rw other at e))
]

module _ {K : Type 0} where
  abbrev pub good_rows : RowsOf K → Bool
  good_rows [] = true
  good_rows ((t, k) ∷ rest) = is_good t && good_rows rest

  -- before each of these rows stands a parameter
  abbrev end_rows : RowsOf K → Bool
  end_rows [] = true
  end_rows ((t, k) ∷ rest) = is_end t && end_rows rest

  own_some : (rs : RowsOf K) (e : K) → Has [] e rs → is_some (own rs) ≡ true
  own_some [] e h = absurd h
  own_some (([], k) ∷ rest) e h = refl
  own_some ((x ∷ u, k) ∷ rest) e (inl here) = absurd (let is = here.0 in cc)
  own_some ((x ∷ u, k) ∷ rest) e (inr later) = own_some rest e later

  step_keeps : (b : ℕ) (rs : RowsOf K) (t : List ℕ) (e : K) → Has (b ∷ t) e rs → Has t e (step b rs)
  step_keeps b [] t e h = h
  step_keeps b (([], k) ∷ rest) t e (inl here) = absurd (let is = here.0 in cc)
  step_keeps b (([], k) ∷ rest) t e (inr later) = step_keeps b rest t e later
  step_keeps b ((x ∷ u, k) ∷ rest) t e (inl here) =
      let is = here.0 in
      let head : b ≡ x = cc in
      let tail : t ≡ u = cc in
      let same : (x == b) ≡ true = grind (arith, nat_tests) in
      rw same (inl (tail, here.1))
  step_keeps b ((x ∷ u, k) ∷ rest) t e (inr later) = elim (cases_Bool (x == b)) [
    | inl same ↦ rw same (inr (step_keeps b rest t e later))
    | inr other ↦ rw other (step_keeps b rest t e later)
  ]

  step_good : (b : ℕ) (rs : RowsOf K) → good_rows rs ≡ true → good_rows (step b rs) ≡ true
  step_good b [] g = refl
  step_good b (([], k) ∷ rest) g = step_good b rest g
  step_good b ((x ∷ u, k) ∷ rest) g =
      let both = and_parts (is_good (x ∷ u)) (good_rows rest) g in
      let tail : is_good u ≡ true = (token_good x u both.0).1 in
      let more = step_good b rest both.1 in
      elim (cases_Bool (x == b)) [ inl same ↦ rw (same, tail) more | inr other ↦ rw other more ]

  step_ends : (rs : RowsOf K) → good_rows rs ≡ true → end_rows (step 256 rs) ≡ true
  step_ends [] g = refl
  step_ends (([], k) ∷ rest) g = step_ends rest g
  step_ends ((x ∷ u, k) ∷ rest) g =
      let both = and_parts (is_good (x ∷ u)) (good_rows rest) g in
      let token = (token_good x u both.0).0 in
      let more = step_ends rest both.1 in
      elim (cases_Bool (x == 256)) [
        | inl same ↦
            let is : x ≡ 256 = grind (arith, nat_tests) in
            let end : is_end u ≡ true = elim token [ inl low ↦ absurd (omega arith) | inr p ↦ p.1 ] in
            rw (same, end) more
        | inr other ↦ rw other more
      ]

  row_end : (rs : RowsOf K) (t : List ℕ) (e : K) → end_rows rs ≡ true → Has t e rs → is_end t ≡ true
  row_end [] t e ends h = absurd h
  row_end ((u, k) ∷ rest) t e ends (inl here) = rw here.0 (and_parts (is_end u) (end_rows rest) ends).0
  row_end ((u, k) ∷ rest) t e ends (inr later) = row_end rest t e (and_parts (is_end u) (end_rows rest) ends).1 later

  suffix_keeps : (s : List ℕ) (rs : RowsOf K) (t : List ℕ) (e : K) → Has t e rs → segment t ≡ s → Has t e (with_suffix s rs)
  suffix_keeps s [] t e h is = h
  suffix_keeps s ((u, k) ∷ rest) t e (inl here) is =
      let equal : segment u ≡ s = rw (← here.0) is in
      let same : same_text (segment u) s ≡ true = (bytes_eq-Decides (segment u) s).1 equal in
      rw same (inl here)
  suffix_keeps s ((u, k) ∷ rest) t e (inr later) is = elim (cases_Bool (same_text (segment u) s)) [
    | inl same ↦ rw same (inr (suffix_keeps s rest t e later is))
    | inr other ↦ rw other (suffix_keeps s rest t e later is)
  ]

  suffix_good : (s : List ℕ) (rs : RowsOf K) → good_rows rs ≡ true → good_rows (with_suffix s rs) ≡ true
  suffix_good s [] g = refl
  suffix_good s ((u, k) ∷ rest) g =
      let both = and_parts (is_good u) (good_rows rest) g in
      let more = suffix_good s rest both.1 in
      elim (cases_Bool (same_text (segment u) s)) [ inl same ↦ rw (same, both.0) more | inr other ↦ rw other more ]

  -- of rows behind a parameter the longest suffix is a slash where the segment ends with one, and else empty
  longest_none : (seg : List ℕ) (rs : RowsOf K) → cuts seg (47 ∷ []) ≡ false → end_rows rs ≡ true → longest_from seg [] rs ≡ []
  longest_none seg [] cut ends = refl
  longest_none seg (([], k) ∷ rest) cut ends = longest_none seg rest cut ends
  longest_none seg ((y ∷ u, k) ∷ rest) cut ends =
      let both = and_parts (y == 47) (end_rows rest) ends in
      let slash : y ≡ 47 = let first = both.0 in grind (arith, nat_tests) in
      rw (slash, cut) (longest_none seg rest cut both.1)

  longest_stays : (seg : List ℕ) (rs : RowsOf K) → end_rows rs ≡ true → longest_from seg (47 ∷ []) rs ≡ 47 ∷ []
  longest_stays seg [] ends = refl
  longest_stays seg (([], k) ∷ rest) ends = longest_stays seg rest ends
  longest_stays seg ((y ∷ u, k) ∷ rest) ends =
      let both = and_parts (y == 47) (end_rows rest) ends in
      let slash : y ≡ 47 = let first = both.0 in grind (arith, nat_tests) in
      rw slash (longest_stays seg rest both.1)

  longest_slash : (seg : List ℕ) (rs : RowsOf K) (y : ℕ) (t : List ℕ) (e : K) → cuts seg (47 ∷ []) ≡ true → end_rows rs ≡ true → Has (y ∷ t) e rs
      → longest_from seg [] rs ≡ 47 ∷ []
  longest_slash seg [] y t e cut ends h = absurd h
  longest_slash seg (([], k) ∷ rest) y t e cut ends (inl here) = absurd (let is = here.0 in cc)
  longest_slash seg (([], k) ∷ rest) y t e cut ends (inr later) = longest_slash seg rest y t e cut ends later
  longest_slash seg ((z ∷ u, k) ∷ rest) y t e cut ends h =
      let both = and_parts (z == 47) (end_rows rest) ends in
      let slash : z ≡ 47 = let first = both.0 in grind (arith, nat_tests) in
      rw (slash, cut) (longest_stays seg rest both.1)

  -- what a parameter takes, and the rows that go on behind it
  pub record Goes (rs : RowsOf K) (path t : List ℕ) (e : K) : Type 0 where
    pub size : (param_step rs path).0 ≡ length (before path)
    pub has : Has t e (param_step rs path).1
    pub good : good_rows (param_step rs path).1 ≡ true

  param_slash : (rs : RowsOf K) (path : List ℕ) → longest_suffix (segment path) rs ≡ 47 ∷ [] → param_step rs path ≡ (length (segment path) - 1, with_suffix (47 ∷ []) rs)
  unfolding param_step
  param_slash rs path e = rw e refl

  param_end : (rs : RowsOf K) (path : List ℕ) → longest_suffix (segment path) rs ≡ [] → has_slash path ≡ false → param_step rs path ≡ (length path, rs)
  unfolding param_step
  param_end rs path e slash = rw (e, slash) refl

  param_finds : (rs : RowsOf K) (t : List ℕ) (e : K) (path left : List ℕ) (texts : List (List ℕ)) → Has t e rs → end_rows rs ≡ true → good_rows rs ≡ true
      → 0 < length (before path) → after path ≡ left → taken t left ≡ Some texts → Goes rs path t e
  param_finds rs [] e path [] texts h ends g some is takes =
      let size : length (before path) ≡ length path = ap length (no_slash path (has_no_slash path is)).1 in
      let step = param_end rs path (longest_none (segment path) rs (not_cut path is) ends) (has_no_slash path is) in
      record { size = rw step (sym size); has = rw step h; good = rw step g }
  param_finds rs (y ∷ t) e path [] texts h ends g some is takes = absurd cc
  param_finds rs [] e path (c ∷ left) texts h ends g some is takes = absurd cc
  param_finds rs (y ∷ t) e path (c ∷ left) texts h ends g some is takes =
      let cut = is_cut path left c some is in
      let step = param_slash rs path (longest_slash (segment path) rs y t e cut ends h) in
      let size = (cut_piece path cut).1 in
      let slash : y ≡ 47 = let end = row_end rs (y ∷ t) e ends h in grind (arith, nat_tests) in
      record {
        size = rw step (omega arith);
        has = rw step (suffix_keeps (47 ∷ []) rs (y ∷ t) e h (rw slash refl));
        good = rw step (suffix_good (47 ∷ []) rs g);
      }

  seek_drop : (k : ℕ) (rs : RowsOf K) (path : List ℕ) → seek k rs path ≡ seek 0 rs (drop k path)
  unfolding seek
  seek_drop zero rs path = refl
  seek_drop (suc k) rs [] = refl
  seek_drop (suc k) rs (b ∷ path) = seek_drop k rs path

  first_some : (a o : Option K) → is_some a ≡ true → is_some (or_else a o) ≡ true
  first_some None o e = absurd cc
  first_some (Some k) o e = refl

  later_some : (a o : Option K) → is_some o ≡ true → is_some (or_else a o) ≡ true
  later_some None o e = e
  later_some (Some k) o e = refl

  -- a path that the tokens of a row take is answered
  pub taken_found : (t path : List ℕ) (rs : RowsOf K) (e : K) (texts : List (List ℕ)) → Has t e rs → good_rows rs ≡ true → taken t path ≡ Some texts
      → is_some (seek 0 rs path) ≡ true
  unfolding seek
  taken_found [] [] rs e texts h g takes = own_some rs e h
  taken_found [] (b ∷ path) rs e texts h g takes = absurd cc
  taken_found (x ∷ t) [] rs e texts h g takes = absurd cc
  taken_found (x ∷ t) (b ∷ path) rs e texts h g takes = elim (cases_Bool (x == 256)) [
    | inl wild ↦
        let is : x ≡ 256 = grind (arith, nat_tests) in
        let s = some_text (before (b ∷ path)) (taken t (after (b ∷ path))) texts (rw wild at takes) in
        let rows : RowsOf K = step 256 rs in
        let p = param_finds rows t e (b ∷ path) (after (b ∷ path)) s.1.0 (step_keeps 256 rs t e (rw is at h)) (step_ends rs g) (step_good 256 rs g) s.0 refl s.1.1 in
        let n : ℕ = (param_step rows (b ∷ path)).0 in
        let size : n ≡ length (before (b ∷ path)) = p.size in
        let some = s.0 in
        let from : suc (n - 1) ≡ length (before (b ∷ path)) = omega arith in
        let left : drop (n - 1) path ≡ after (b ∷ path) = ap (λ k. drop k (b ∷ path)) from ∙ drop_before (b ∷ path) in
        let more = taken_found t (after (b ∷ path)) (param_step rows (b ∷ path)).1 e s.1.0 p.has p.good s.1.1 in
        later_some (seek 0 (step b rs) path) (or_else (seek (n - 1) (param_step rows (b ∷ path)).1 path) (own (step catch_all_token rs))) (
        first_some (seek (n - 1) (param_step rows (b ∷ path)).1 path) (own (step catch_all_token rs)) (
        ap is_some (seek_drop (n - 1) (param_step rows (b ∷ path)).1 path ∙ ap (seek 0 (param_step rows (b ∷ path)).1) left) ∙ more
        )
        )
    | inr byte ↦
        let takes_byte : cond (x == b) (taken t path) None ≡ Some texts = rw byte at takes in
        elim (cases_Bool (x == b)) [
          | inl same ↦
              let is : x ≡ b = grind (arith, nat_tests) in
              first_some (seek 0 (step b rs) path) (
              or_else (seek ((param_step (step param_token rs) (b ∷ path)).0 - 1) (param_step (step param_token rs) (b ∷ path)).1 path) (own (step catch_all_token rs))
              ) (taken_found t path (step b rs) e texts (step_keeps b rs t e (rw is at h)) (step_good b rs g) (rw same at takes_byte))
          | inr other ↦ absurd (let none : None ≡ Some texts = rw other at takes_byte in cc)
        ]
  ]
