-- A walk over pages, and where it begins.
use Rattle.std.proofs.Common.{Bool, false, true, ◌≡◌, ◌==◌, ◌-◌, ◌≤◌, ◌<◌, List, [], ◌∷◌, ◌++◌, length, map, take, drop, get_or, refl, sym, ap, ◌∙◌, subst, arith, append_assoc}
use Rattle.std.specs.declared.cmp.Ordering.{Ordering}
use Rattle.std.specs.declared.sync.Arc.{Arc}
use Rattle.std.specs.Arc.{arc_value}
use Rattle.std.specs.Cmp.{IsTotalOrder}
use Rattle.std.specs.Ordering.{is_gt}
use Rattle.std.specs.List.{AllByRecursion}
use Rattle.std.proofs.lemmas.Bool.{eqb-true}
use Rattle.std.proofs.lemmas.List.{take_rest}
use Rattle.keyed.specs.Keyed.{Ascends}
use Rattle.paged.specs.Pairs.{key_of, value_of, pair_of}
use Rattle.paged.specs.Parts.{HasHead, parts}
use Rattle.paged.specs.Paged.{all_pairs, ArePages, AreChunks}
use Rattle.paged.specs.Walk.{from, parts_from, with_run, ahead, AreAhead}
use Rattle.paged.proofs.Heads.{parts_join}
use Rattle.paged.proofs.Places.{ascends_map, parts_map}
use Rattle.paged.proofs.Changes.{ascends_first}
use Rattle.paged.proofs.Stepping.{pages_behind, chunks_behind, chunk_pages}
use Rattle.paged.proofs.Tables.{begun}
use Rattle.paged.proofs.Looking.{page_keys, chunk_keys, page_from, chunk_from, flat_parts}

-- the parts behind the first, as a slice has them
abbrev pub behind : {X : Type 0} → List X → List X
behind xs = take (length xs - 1) (drop 1 xs)

first_behind : {X : Type 0} (xs : List X) (x : X) → 1 ≤ length xs → x ≡ get_or xs 0 x → xs ≡ x ∷ behind xs
first_behind [] x l is = absurd (omega arith)
first_behind (y ∷ ys) x l is = rw (take_rest (y ∷ ys) 1, is) refl

none_of : {X : Type 0} (xs : List X) → length xs < 1 → xs ≡ []
none_of [] l = refl
none_of (x ∷ xs) l = absurd (omega arith)

pub empty_of : {X : Type 0} (xs : List X) → true ≡ (length xs == 0) → xs ≡ []
empty_of [] e = refl
empty_of (x ∷ xs) e = let none : length (x ∷ xs) ≡ 0 = eqb-true (length (x ∷ xs)) 0 (sym e) in absurd (omega arith)

-- a run where none is open yet
pub run_first : {X : Type 0} (r run : List X) (a b now : List (List X)) (q : List X) → r ≡ [] → with_run r a ≡ now → a ≡ q ∷ b → run ≡ q → now ≡ run ∷ with_run r b
run_first r run a b now q none view e same = rw (none, same) (sym (rw none at view) ∙ e)

module _ {K V Z Y : Type 0} where
  -- the first page of the first chunk, where no page is open
  pub opened : (pages : List (K × Arc (List (K × V)) Y)) (chunks : List (K × Arc (List (K × List (K × V))) Z)) (c : K × Arc (List (K × List (K × V))) Z) (d : List (K × List (K × V))) (entries : List (K × Arc (List (K × V)) Y)) (p : K × Arc (List (K × V)) Y) → AreAhead (map pair_of pages) (map pair_of chunks) → length pages < 1 → 1 ≤ length chunks → c ≡ get_or chunks 0 c → d ≡ arc_value c.1 → map pair_of entries ≡ d → 1 ≤ length entries → p ≡ get_or entries 0 p → record { left : AreAhead (map pair_of (behind entries)) (map pair_of (behind chunks)); pages : map value_of (ahead (map pair_of pages) (map pair_of chunks)) ≡ arc_value p.1 ∷ map value_of (ahead (map pair_of (behind entries)) (map pair_of (behind chunks))) }
  opened pages chunks c d entries p are none some is deref e several first =
      let split : chunks ≡ c ∷ behind chunks = first_behind chunks c some is in
      let inner : entries ≡ p ∷ behind entries = first_behind entries p several first in
      let whole : map pair_of (p ∷ behind entries) ≡ arc_value c.1 = subst (λ (xs : List (K × Arc (List (K × V)) Y)). map pair_of xs ≡ arc_value c.1) inner (e ∙ deref) in
      let all : ahead (map pair_of pages) (map pair_of chunks) ≡ pair_of p ∷ ahead (map pair_of (behind entries)) (map pair_of (behind chunks)) =
      ap (λ (xs : List (K × Arc (List (K × V)) Y)). ahead (map pair_of xs) (map pair_of chunks)) (none_of pages none)
      ∙ (ap (λ (xs : List (K × Arc (List (K × List (K × V))) Z)). parts (map pair_of xs)) split
      ∙ ap (λ (xs : List (K × List (K × V))). xs ++ parts (map pair_of (behind chunks))) (sym whole)) in
      let heads : AllByRecursion HasHead (map pair_of (c ∷ behind chunks)) = subst (λ (xs : List (K × Arc (List (K × List (K × V))) Z)). AllByRecursion HasHead (map pair_of xs)) split are.chunk_heads in
      let ones : AllByRecursion HasHead (pair_of p ∷ ahead (map pair_of (behind entries)) (map pair_of (behind chunks))) = subst (AllByRecursion HasHead) all are.page_heads in
      record {
        left = record { chunk_heads = heads.1; page_heads = ones.1 };
        pages = ap (λ (xs : List (K × List (K × V))). map value_of xs) all;
      }

all_values : {K V : Type 0} (t : List (K × List (K × V))) → all_pairs (map value_of t) ≡ parts t
all_values [] = refl
all_values (e ∷ t) = ap (λ (l : List _). e.1 ++ l) (all_values t)

-- the pairs of a run and of the pages behind it
all_with_run : {K V : Type 0} (r : List (K × V)) (t : List (K × List (K × V))) → all_pairs (with_run r (map value_of t)) ≡ r ++ parts t
all_with_run [] t = all_values t
all_with_run (x ∷ xs) t = ap (λ (l : List _). (x ∷ xs) ++ l) (all_values t)

-- the pairs of a run, of the pages behind it and of the chunks behind those
pub all_ahead : {K V : Type 0} (r s : List (K × V)) (a : List (K × List (K × V))) (b : List (K × List (K × List (K × V)))) → r ++ parts a ≡ s → all_pairs (with_run r (map value_of (ahead a b))) ≡ s ++ parts (parts b)
all_ahead r s a b e =
    all_with_run r (ahead a b)
    ∙ (ap (λ (l : List _). r ++ l) (parts_join a (parts b))
    ∙ (sym (append_assoc r (parts a) (parts (parts b))) ∙ ap (λ (l : List _). l ++ parts (parts b)) e))

module _ {K V : Type 0} (cmp : K → K → Ordering) (order : IsTotalOrder cmp) where
  pages_started : (ps : List (K × List (K × V))) (q : K) → ArePages cmp ps → ArePages cmp (parts_from cmp ps q)
  pages_started [] q are = are
  pages_started (x ∷ []) q are = are
  pages_started (x ∷ y ∷ ps) q are = by (pages_started (y ∷ ps) q (pages_behind cmp order x (y ∷ ps) are)) (is_gt (cmp y.0 q)) refl
    where
      by : ArePages cmp (parts_from cmp (y ∷ ps) q) → (b : Bool) → is_gt (cmp y.0 q) ≡ b → ArePages cmp (parts_from cmp (x ∷ y ∷ ps) q)
      by more true g = rw g are
      by more false g = rw g more

  chunks_started : (cs : List (K × List (K × List (K × V)))) (q : K) → AreChunks cmp cs → AreChunks cmp (parts_from cmp cs q)
  chunks_started [] q are = are
  chunks_started (x ∷ []) q are = are
  chunks_started (x ∷ y ∷ cs) q are = by (chunks_started (y ∷ cs) q (chunks_behind cmp order x (y ∷ cs) are)) (is_gt (cmp y.0 q)) refl
    where
      by : AreChunks cmp (parts_from cmp (y ∷ cs) q) → (b : Bool) → is_gt (cmp y.0 q) ≡ b → AreChunks cmp (parts_from cmp (x ∷ y ∷ cs) q)
      by more true g = rw g are
      by more false g = rw g more

module _ {K V Z : Type 0} (cmp : K → K → Ordering) (order : IsTotalOrder cmp) where
  -- pages stand in the order of their keys, and so do chunks
  pub entries_ascend : (es : List (K × Arc (List (K × V)) Z)) (ps : List (K × List (K × V))) → map pair_of es ≡ ps → ArePages cmp ps → Ascends cmp key_of es
  entries_ascend es ps e are = ascends_map cmp arc_value es (subst (Ascends cmp key_of) (sym e) (page_keys cmp order ps are.heads are.order))

  pub chunks_ascend : (es : List (K × Arc (List (K × List (K × V))) Z)) → AreChunks cmp (map pair_of es) → Ascends cmp key_of es
  chunks_ascend es are = ascends_map cmp arc_value es (chunk_keys cmp order (map pair_of es) are)

  -- the page in which a key belongs
  pub page_started : (es r : List (K × Arc (List (K × V)) Z)) (ps : List (K × List (K × V))) (q : K) (p : K × Arc (List (K × V)) Z) → map pair_of es ≡ ps → ArePages cmp ps → r ≡ parts_from cmp es q → 1 ≤ length r → p ≡ get_or r 0 p → record { order : Ascends cmp key_of (arc_value p.1); heads : AllByRecursion HasHead (map pair_of (behind r)); from : from cmp (arc_value p.1) q ++ parts (map pair_of (behind r)) ≡ from cmp (parts ps) q }
  page_started es r ps q p e are found some is =
      let first : map pair_of (p ∷ behind r) ≡ parts_from cmp ps q =
      ap (λ (xs : List (K × Arc (List (K × V)) Z)). map pair_of xs) (sym (first_behind r p some is) ∙ found)
      ∙ (sym (parts_map cmp arc_value es q) ∙ ap (λ (xs : List (K × List (K × V))). parts_from cmp xs q) e) in
      let at : ArePages cmp (map pair_of (p ∷ behind r)) = subst (ArePages cmp) (sym first) (pages_started cmp order ps q are) in
      record {
        order = ascends_first cmp order (arc_value p.1) (parts (map pair_of (behind r))) at.order;
        heads = at.heads.1;
        from = sym (page_from cmp order ps q are ∙ ap (λ (xs : List (K × List (K × V))). begun cmp order (λ p. p) xs q) (sym first));
      }

  pub no_page : (es r : List (K × Arc (List (K × V)) Z)) (ps : List (K × List (K × V))) (q : K) → map pair_of es ≡ ps → ArePages cmp ps → r ≡ parts_from cmp es q → length r < 1 → [] ≡ from cmp (parts ps) q
  no_page es r ps q e are found none =
      let first : [] ≡ parts_from cmp ps q =
      ap (λ (xs : List (K × Arc (List (K × V)) Z)). map pair_of xs) (sym (none_of r none) ∙ found)
      ∙ (sym (parts_map cmp arc_value es q) ∙ ap (λ (xs : List (K × List (K × V))). parts_from cmp xs q) e) in
      sym (page_from cmp order ps q are ∙ ap (λ (xs : List (K × List (K × V))). begun cmp order (λ p. p) xs q) (sym first))

  -- the chunk in which a key belongs
  pub chunk_started : (es r : List (K × Arc (List (K × List (K × V))) Z)) (q : K) (c : K × Arc (List (K × List (K × V))) Z) → AreChunks cmp (map pair_of es) → r ≡ parts_from cmp es q → 1 ≤ length r → c ≡ get_or r 0 c → record { pages : ArePages cmp (arc_value c.1); chunk_heads : AllByRecursion HasHead (map pair_of (behind r)); page_heads : AllByRecursion HasHead (parts (map pair_of (behind r))); from : from cmp (parts (arc_value c.1)) q ++ parts (parts (map pair_of (behind r))) ≡ from cmp (parts (parts (map pair_of es))) q }
  chunk_started es r q c are found some is =
      let first : map pair_of (c ∷ behind r) ≡ parts_from cmp (map pair_of es) q =
      ap (λ (xs : List (K × Arc (List (K × List (K × V))) Z)). map pair_of xs) (sym (first_behind r c some is) ∙ found)
      ∙ sym (parts_map cmp arc_value es q) in
      let at : AreChunks cmp (map pair_of (c ∷ behind r)) = subst (AreChunks cmp) (sym first) (chunks_started cmp order (map pair_of es) q are) in
      let later : AreChunks cmp (map pair_of (behind r)) = chunks_behind cmp order (pair_of c) (map pair_of (behind r)) at in
      record {
        pages = chunk_pages cmp order (pair_of c) (map pair_of (behind r)) at;
        chunk_heads = later.heads;
        page_heads = later.pages.heads;
        from = sym (chunk_from cmp order (map pair_of es) q are ∙ (ap (λ (xs : List (K × List (K × List (K × V)))). begun cmp order parts xs q) (sym first) ∙ ap (λ (l : List (K × V)). from cmp (parts (arc_value c.1)) q ++ l) (flat_parts cmp order (map pair_of (behind r)))));
      }

  pub no_chunk : (es r : List (K × Arc (List (K × List (K × V))) Z)) (q : K) → AreChunks cmp (map pair_of es) → r ≡ parts_from cmp es q → length r < 1 → [] ≡ from cmp (parts (parts (map pair_of es))) q
  no_chunk es r q are found none =
      let first : [] ≡ parts_from cmp (map pair_of es) q =
      ap (λ (xs : List (K × Arc (List (K × List (K × V))) Z)). map pair_of xs) (sym (none_of r none) ∙ found)
      ∙ sym (parts_map cmp arc_value es q) in
      sym (chunk_from cmp order (map pair_of es) q are ∙ ap (λ (xs : List (K × List (K × List (K × V)))). begun cmp order parts xs q) (sym first))
