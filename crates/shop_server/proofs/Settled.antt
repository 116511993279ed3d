-- What the bytes read say of all that a connection was sent.
use Rattle.std.proofs.Common.{◌≡◌, ℕ, zero, suc, ◌<◌, ◌==◌, true, false, List, [], ◌∷◌, ◌++◌, length, drop, Option, Some, None, refl, sym, ap, ◌∙◌, subst, inl, inr, arith, append_assoc, append-nil}
use Rattle.std.proofs.lemmas.List.{drop-append-le}
use Rattle.std.specs.Io.KnownBytes.{Consumes, IsAtEnd}
use Rattle.shop_http.specs.Requests.{Request, Asked, Front, whole, part, bad, Ending, open_at, refused, closing, spent, requests, with_front, IsCut}
use Rattle.shop_server.specs.declared.session.Ended.{Ended}
use Rattle.shop_server.specs.declared.session.Ended.TheVariants.{Closed, HeadRefused, Spent, Truncated, ReadFault, WriteFault, NoMemory}
use Rattle.shop_server.specs.Session.{IsFront, Session}
use Rattle.shop_server.specs.Outcome.{ended_of, MayEnd, IsSettled}
use Rattle.shop_server.proofs.Progress.{asks, none_left, at_part, at_bad, at_last, at_whole, whole_is_settled}

pub front_trans : {X : Type 0} (xs ys zs : List X) → IsFront xs ys → IsFront ys zs → IsFront xs zs
front_trans xs ys zs h k = (h.0 ++ k.0, k.1 ∙ ap (λ l. l ++ k.0) h.1 ∙ append_assoc xs h.0 k.0)

module _ {F : Type 0} (cut : List ℕ → Front F) (longest : ℕ) (law : IsCut cut longest) where
  -- what stands at the front of the bytes
  pub data Way (bytes : List ℕ) : Type 0 where
    goes : (r : Request) (used : ℕ) → cut bytes ≡ whole r used → r.closing ≡ false → Way bytes
    stops : (r : Request) (used : ℕ) → cut bytes ≡ whole r used → r.closing ≡ true → Way bytes
    less : cut bytes ≡ part → Way bytes
    never : (f : F) → cut bytes ≡ bad f → Way bytes

  pub way : (bytes : List ℕ) → Way bytes
  way bytes = elim (cut bytes) as (λ v. cut bytes ≡ v → Way bytes) [
    | whole r used ↦ λ e. elim r.closing as (λ v. r.closing ≡ v → Way bytes) [ true ↦ λ c. stops r used e c | false ↦ λ c. goes r used e c ] refl
    | part ↦ λ e. less e
    | bad f ↦ λ e. never f e
  ] refl

  bad_is_settled : (bytes : List ℕ) (f : F) → cut bytes ≡ bad f → cut bytes ≡ part → ⊥
  bad_is_settled bytes f h p = cc

  module _ (n : ℕ) (bytes more : List ℕ) where
    whole_stays : (r : Request) (used : ℕ) → cut bytes ≡ whole r used → cut (bytes ++ more) ≡ whole r used
    whole_stays r used e = law.settled bytes more (whole_is_settled cut bytes r used e) ∙ e

    stopped : (r : Request) (used : ℕ) → cut bytes ≡ whole r used → r.closing ≡ true → requests cut (suc n) (bytes ++ more) ≡ requests cut (suc n) bytes
    stopped r used e c = at_last cut n (bytes ++ more) r used (whole_stays r used e) c ∙ sym (at_last cut n bytes r used e c)

    never_so : (f : F) → cut bytes ≡ bad f → requests cut (suc n) (bytes ++ more) ≡ requests cut (suc n) bytes
    never_so f e = at_bad cut n (bytes ++ more) f (law.settled bytes more (bad_is_settled bytes f e) ∙ e) ∙ sym (at_bad cut n bytes f e)

    went : (r : Request) (used : ℕ) → cut bytes ≡ whole r used → r.closing ≡ false → requests cut (suc n) (bytes ++ more) ≡ with_front (asks cut r (n == 0)) (requests cut n (drop used bytes ++ more))
    went r used e c = at_whole cut n (bytes ++ more) r used (whole_stays r used e) c
        ∙ ap (λ bs. with_front (asks cut r (n == 0)) (requests cut n bs)) (drop-append-le used bytes more (law.takes bytes r used e).1)

  -- where the list of requests has come to an end, more bytes change nothing
  pub requests_stay : (n : ℕ) (bytes more : List ℕ) → IsSettled (requests cut n bytes).ending → requests cut n (bytes ++ more) ≡ requests cut n bytes
  requests_stay zero bytes more s = none_left cut (bytes ++ more) ∙ sym (none_left cut bytes)
  requests_stay (suc n) bytes more s = elim (way bytes) as (λ _. requests cut (suc n) (bytes ++ more) ≡ requests cut (suc n) bytes) [
    | goes r used e c ↦
        (let here = at_whole cut n bytes r used e c in
        went n bytes more r used e c ∙ ap (with_front (asks cut r (n == 0))) (requests_stay n (drop used bytes) more (subst IsSettled (ap (λ c. c.ending) here) s)) ∙ sym here)
    | stops r used e c ↦ stopped n bytes more r used e c
    | less e ↦ absurd (subst IsSettled (ap (λ c. c.ending) (at_part cut n bytes e)) s)
    | never f e ↦ never_so n bytes more f e
  ]

  -- more bytes only add requests
  pub requests_grow : (n : ℕ) (bytes more : List ℕ) → IsFront (requests cut n bytes).asked (requests cut n (bytes ++ more)).asked
  requests_grow zero bytes more = ([], ap (λ c. c.asked) (none_left cut (bytes ++ more) ∙ sym (none_left cut bytes)) ∙ sym (append-nil _))
  requests_grow (suc n) bytes more = elim (way bytes) as (λ _. IsFront (requests cut (suc n) bytes).asked (requests cut (suc n) (bytes ++ more)).asked) [
    | goes r used e c ↦
        (let here = at_whole cut n bytes r used e c in
        let rest = requests_grow n (drop used bytes) more in
        (rest.0, ap (λ c. c.asked) (went n bytes more r used e c) ∙ ap (λ l. asks cut r (n == 0) ∷ l) rest.1 ∙ ap (λ c. c.asked ++ rest.0) (sym here)))
    | stops r used e c ↦ ([], ap (λ c. c.asked) (stopped n bytes more r used e c) ∙ sym (append-nil _))
    | less e ↦ ((requests cut (suc n) (bytes ++ more)).asked, ap (λ c. c.asked ++ (requests cut (suc n) (bytes ++ more)).asked) (sym (at_part cut n bytes e)))
    | never f e ↦ ([], ap (λ c. c.asked) (never_so n bytes more f e) ∙ sym (append-nil _))
  ]

-- some front of all bytes was read
some_read : (all got : List ℕ) (left' : Option (List ℕ)) → Consumes (Some all) left' got → IsFront got all
some_read all got None c = absurd c
some_read all got (Some rest) c = (rest, c)

-- all bytes were read
all_read : (all got : List ℕ) (left' : Option (List ℕ)) → Consumes (Some all) left' got → IsAtEnd left' → all ≡ got
all_read all got None c e = absurd c
all_read all got (Some rest) c e = c ∙ ap (λ r. got ++ r) e ∙ append-nil got

module _ {F A : Type 0} (gives : A → Asked → List ℕ → A → Type 0) (fatal : F → List ℕ) (cut : List ℕ → Front F) (longest : ℕ) (law : IsCut cut longest) (most : ℕ) (old last : A) (all : List ℕ)
    (left' written written' : Option (List ℕ)) where
  abbrev Ran : Ended → Type 0
  Ran ended = Session gives fatal cut most old last (Some all) left' written written' ended

  abbrev at_all : Ending F
  at_all = (requests cut most all).ending

  settled_at : (ended : Ended) (s : Ran ended) (e : Ending F) → (requests cut most s.got).ending ≡ e → IsSettled e → at_all ≡ e
  settled_at ended s e h k =
      let r = some_read all s.got left' s.read in
      ap (λ bs. (requests cut most bs).ending) r.1 ∙ ap (λ c. c.ending) (requests_stay cut longest law most s.got r.0 (subst IsSettled (sym h) k)) ∙ h

  open_end : (ended : Ended) (s : Ran ended) (rest : List ℕ) → (requests cut most s.got).ending ≡ open_at rest → IsAtEnd left' → at_all ≡ open_at rest
  open_end ended s rest h e = ap (λ bs. (requests cut most bs).ending) (all_read all s.got left' s.read e) ∙ h

  cut_short : (rest : List ℕ) → 0 < length rest → ended_of {F = F} (open_at rest) ≡ Truncated
  cut_short [] h = absurd (omega arith)
  cut_short (b ∷ bytes) h = refl

  -- where the source tells all its bytes, they determine how the connection ends, unless a call failed or memory ran out
  pub outcome : (ended : Ended) → Ran ended → MayEnd at_all ended
  outcome Closed s = inr (inr (inr (elim s.how.2 as (λ _. Closed ≡ ended_of at_all) [
    | inl c ↦ sym (ap ended_of (settled_at Closed s closing c tt))
    | inr o ↦ sym (ap ended_of (open_end Closed s [] o.0 o.1))
  ])))
  outcome HeadRefused s = inr (inr (inr (sym (ap ended_of (settled_at HeadRefused s (refused s.how.0) s.how.2 tt)))))
  outcome Spent s = inr (inr (inr (sym (ap ended_of (settled_at Spent s spent s.how.2 tt)))))
  outcome Truncated s = inr (inr (inr (sym (ap ended_of (open_end Truncated s s.how.2.0 s.how.2.2 s.how.3) ∙ cut_short s.how.2.0 s.how.2.1))))
  outcome ReadFault s = inl refl
  outcome WriteFault s = inr (inl refl)
  outcome NoMemory s = inr (inr (inl refl))

  all_of : (asked : List Asked) (got : List ℕ) → asked ≡ (requests cut most got).asked → IsFront asked (requests cut most got).asked
  all_of asked got e = ([], sym e ∙ sym (append-nil asked))

  asked_first : (ended : Ended) (s : Ran ended) → IsFront s.asked (requests cut most s.got).asked
  asked_first Closed s = all_of s.asked s.got s.how.0
  asked_first HeadRefused s = all_of s.asked s.got s.how.3
  asked_first Spent s = all_of s.asked s.got s.how.0
  asked_first Truncated s = all_of s.asked s.got s.how.0
  asked_first ReadFault s = all_of s.asked s.got s.how.0
  asked_first WriteFault s = elim s.how.3 as (λ _. IsFront s.asked (requests cut most s.got).asked) [
    | inl h ↦ h.0
    | inr h ↦ all_of s.asked s.got h.3
  ]
  asked_first NoMemory s = all_of s.asked s.got s.how.0

  -- the requests that were answered are the first ones of all bytes
  pub answered_first : (ended : Ended) (s : Ran ended) → IsFront s.asked (requests cut most all).asked
  answered_first ended s =
      let r = some_read all s.got left' s.read in
      front_trans s.asked (requests cut most s.got).asked (requests cut most all).asked (asked_first ended s)
      (subst (λ bs. IsFront (requests cut most s.got).asked (requests cut most bs).asked) (sym r.1) (requests_grow cut longest law most s.got r.0))
