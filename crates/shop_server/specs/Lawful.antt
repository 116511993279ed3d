-- The cut of the requests that are served keeps what a way to cut has to keep, and gives these alone.
use Rattle.std.proofs.Common.{◌≡◌, ℕ, Bool, true, false, if◌then◌else◌, ◌+◌, ◌⊎◌, inl, inr, List, ◌++◌, length, refl, sym, ap, ◌∙◌}
use Rattle.shop_http.specs.declared.next.Head.{Head}
use Rattle.shop_http.specs.declared.next.Next.{Next}
use Rattle.shop_http.specs.declared.next.Next.TheVariants.{Whole, More, Nothing, Cut, Fatal}
use Rattle.shop_http.specs.Requests.{Request, Front, whole, part, bad, request_of, IsCut, IsNext, IsNextLook, IsSettledAt}
use Rattle.shop_http.specs.Heads.{head_cut}
use Rattle.shop_http.specs.Laws.{longest}
use Rattle.shop_http.proofs.Cutting.{the_cut as the_request_cut}
use Rattle.shop_http.specs.declared.next.HeadFault.{HeadFault}
use Rattle.shop_routes.specs.Later.{asks_later}
use Rattle.shop_routes.specs.Routing.{routed}
use Rattle.shop_server.specs.declared.refusal.Refusal.TheVariants.{NotBuilt}
use Rattle.shop_routes.specs.declared.looked.Looked.{Looked}
use Rattle.shop_server.specs.declared.refusal.Refusal.{Refusal}
use Rattle.shop_server.specs.Cutting.{IsLookedUp, IsServed, IsServedNext, served_front, refusal_of, cut}

never_part : (r : Request) (used : ℕ) (b : Bool) → (if b then bad NotBuilt else whole r used) ≡ part → ⊥
never_part r used true k = cc
never_part r used false k = cc

-- only a whole request stays one, and it is answered; and only what is part is part
record WasWhole (x : Front HeadFault) (r : Request) (used : ℕ) : Type 0 where
  is_whole : x ≡ whole r used
  served : IsServed r

was_whole : (x : Front HeadFault) (r : Request) (used : ℕ) → served_front x ≡ whole r used → WasWhole x r used
was_whole (whole s n) r used h = by (asks_later (routed s)) refl h
  where
    by : (b : Bool) → asks_later (routed s) ≡ b → (if b then bad NotBuilt else whole s n) ≡ whole r used → WasWhole (whole s n) r used
    by true e k = (cc)
    by false e k = let same : s ≡ r = cc in record { is_whole = (cc); served = ap (λ q. asks_later (routed q)) (sym same) ∙ e }
was_whole part r used h = (cc)
was_whole (bad fault) r used h = (cc)

was_part : (x : Front HeadFault) → served_front x ≡ part → x ≡ part
was_part (whole s n) h = absurd (never_part s n (asks_later (routed s)) h)
was_part part h = refl
was_part (bad fault) h = (cc)

cut_is : (bytes : List ℕ) → cut bytes ≡ served_front (head_cut bytes)
unfolding cut
cut_is bytes = refl

pub the_cut : IsCut cut longest
the_cut = record {
  takes = λ bytes r used h. the_request_cut.takes bytes r used (was_whole (head_cut bytes) r used (sym (cut_is bytes) ∙ h)).is_whole;
  settled = λ bytes more h. cut_is (bytes ++ more) ∙ ap served_front (the_request_cut.settled bytes more (λ q. h (cut_is bytes ∙ ap served_front q))) ∙ sym (cut_is bytes);
  short = λ bytes h. the_request_cut.short bytes (was_part (head_cut bytes) (sym (cut_is bytes) ∙ h));
}

-- what the cut takes is served
pub cut_is_served : (bytes : List ℕ) (r : Request) (used : ℕ) → cut bytes ≡ whole r used → IsServed r
cut_is_served bytes r used h = (was_whole (head_cut bytes) r used (sym (cut_is bytes) ∙ h)).served

same_part : (x : Front HeadFault) → x ≡ part → served_front x ≡ part
same_part x e = ap served_front e

-- the next look at what is served is that at what is a request
pub look_served : (bytes : List ℕ) (least : ℕ) → IsNextLook head_cut bytes least → IsNextLook cut bytes least
look_served bytes least l = record {
  more = l.more;
  before = λ more less. cut_is (bytes ++ more) ∙ same_part (head_cut (bytes ++ more)) (l.before more less);
  then_new = elim l.then_new as (λ _. (least ≡ length bytes + 1) ⊎ IsSettledAt cut bytes least) [
    | inl e ↦ inl e
    | inr s ↦ inr (λ more far h. s more far (was_part (head_cut (bytes ++ more)) (sym (cut_is (bytes ++ more)) ∙ h)))
  ];
}

pub part_served : (bytes : List ℕ) → head_cut bytes ≡ part → cut bytes ≡ part
part_served bytes h = cut_is bytes ∙ same_part (head_cut bytes) h

pub bad_served : (bytes : List ℕ) (fault : HeadFault) → head_cut bytes ≡ bad fault → cut bytes ≡ bad (refusal_of fault)
bad_served bytes fault h = cut_is bytes ∙ ap served_front h

-- a request that was cut off is served, or refused
pub whole_served : (bytes : List ℕ) (ended : Bool) (head : Head) (body : List ℕ) (used : ℕ) (next : Next Refusal Looked) → head_cut bytes ≡ whole (request_of head body) used
    → IsServedNext head body used next → IsNext cut bytes ended next × IsLookedUp next
whole_served bytes ended head body used (Whole h b n found) e s =
    let same : request_of h b.now ≡ request_of head body = ap (λ x. request_of x b.now) s.0 ∙ ap (λ x. request_of head x) s.1 in
    let served : cut bytes ≡ whole (request_of head body) used =
    cut_is bytes ∙ ap served_front e ∙ ap (λ t. if t then bad NotBuilt else whole (request_of head body) used) s.4 in (
      served ∙ ap (λ r. whole r used) (sym same) ∙ ap (λ m. whole (request_of h b.now) m) (sym s.2),
      s.3 ∙ ap routed (sym same),
    )
whole_served bytes ended head body used (Fatal fault) e s =
    (cut_is bytes ∙ ap served_front e ∙ ap (λ t. if t then bad NotBuilt else whole (request_of head body) used) s.1 ∙ ap bad (sym s.0), tt)
whole_served bytes ended head body used (More least) e s = absurd s
whole_served bytes ended head body used Nothing e s = absurd s
whole_served bytes ended head body used Cut e s = absurd s
