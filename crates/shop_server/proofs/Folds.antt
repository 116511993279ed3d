-- The answers of a connection are the fold of the replies over the rows.
use Rattle.std.proofs.Common.{◌≡◌, ℕ, ℤ, ◌+◌, ◌≤◌, List, [], ◌∷◌, ◌++◌, length, is_some, sym, ap, ◌∙◌, subst, arith}
use Rattle.shop_http.specs.Requests.{Asked}
use Rattle.shop_core.specs.Steps.{Stepped, accepted, refused, unbuilt}
use Rattle.shop_core.specs.History.{State, after_step}
use Rattle.shop_core.specs.declared.answers.Request.TheVariants as requests
use Rattle.shop_server.specs.Answering.{Form, asks, turned_away, DeskView, stand_of, AnswersBy, Served, AreServed, HaveServed, Way, worked_out, short, failed, responses, left_by, after_all, served_text, write_at, RepliesAreAFold, FewAreAccepted}
use Rattle.shop_server.specs.Session.{InRange}
use Rattle.shop_outside.specs.Clocks.{Ticks}
use Rattle.shop_server.proofs.Counting.{rose_none, rose_by_one, no_moments, one_moment, none_come, one_comes}

none_served : (old new : DeskView) (out : List ℕ) → out ≡ [] → new ≡ old → HaveServed [] old [] out new
none_served old new out e same = record {
  each = tt;
  text = e;
  left = ap stand_of same;
  counts = rose_none old.answerer.faults new.answerer.faults (ap (λ (d : DeskView). d.answerer.faults) same);
  moments = no_moments old.coming;
  coming = none_come old.coming new.coming (ap (λ (d : DeskView). d.coming) same);
  told = ap (λ (d : DeskView). is_some d.answerer.content) same;
}

one_served : (old mid new : DeskView) (ask : Asked) (asked : List Asked) (first rest out : List ℕ) (one : Served) (served : List Served) → AnswersBy one old.answerer ask first mid.answerer
    → InRange old.coming one.moment → Ticks old.coming mid.coming one.moment → HaveServed served mid asked rest new → out ≡ first ++ rest → HaveServed (one ∷ served) old (ask ∷ asked) out new
one_served old mid new ask asked first rest out one served g range ticks r e = record {
  each = (g.form, g.last, g.may, subst (λ s. AreServed s asked served) g.left r.each);
  text = e ∙ ap (λ l. l ++ rest) g.text ∙ ap (λ l. served_text (stand_of old) one ++ l) (r.text ∙ ap (λ s. responses s served) g.left);
  left = r.left ∙ ap (λ s. after_all s served) g.left;
  counts = rose_by_one one served old.answerer.faults mid.answerer.faults new.answerer.faults g.counts r.counts;
  moments = one_moment old.coming mid.coming one served range ticks r.moments;
  coming = one_comes (length served) old.coming mid.coming new.coming one.moment ticks r.coming;
  told = r.told ∙ g.told;
}

pub answers_fold : RepliesAreAFold
answers_fold old new [] out h = ([], none_served old new out h.0 h.1)
answers_fold old new (ask ∷ asked) out h =
    let r = answers_fold h.0 new asked h.2 h.4 in
    let one : Served = h.3.3.0 in
    let same = sym h.3.3.1 in
    (one ∷ r.0, one_served old h.0 new ask asked h.1 h.2 out one r.0 h.3.3.2 (subst (InRange old.coming) same h.3.1) (subst (Ticks old.coming h.0.coming) same h.3.2) r.1 h.5)

step_counts : (state : State) (s : Stepped) → (after_step state s).number ≤ state.number + 1
step_counts state (accepted rows value) = omega arith
step_counts state (refused rule) = omega arith
step_counts state unbuilt = omega arith

left_counts : (way : Way) (state : State) (form : Form) (moment : ℤ) → (left_by way state form moment).number ≤ state.number + 1
left_counts worked_out state (asks (requests.Write command)) moment = step_counts state (write_at state command moment)
left_counts worked_out state (asks (requests.Row read)) moment = omega arith
left_counts worked_out state (asks (requests.RowList entity id second)) moment = omega arith
left_counts worked_out state (asks (requests.Cart cart)) moment = omega arith
left_counts worked_out state (asks (requests.Indexed query min_front)) moment = omega arith
left_counts worked_out state (asks requests.Front) moment = omega arith
left_counts worked_out state (turned_away fault allow) moment = omega arith
left_counts short state form moment = omega arith
left_counts failed state form moment = omega arith

one_counts : (old new : DeskView) (ask : Asked) (out : List ℕ) (one : Served) → AnswersBy one old.answerer ask out new.answerer → new.answerer.number ≤ old.answerer.number + 1
one_counts old new ask out one g = subst (λ (s : State). s.number ≤ old.answerer.number + 1) (sym g.left) (left_counts one.way (stand_of old) one.form one.moment)

pub few_accepted : FewAreAccepted
few_accepted old new [] out h = subst (λ (d : DeskView). d.answerer.number ≤ old.answerer.number + 0) (sym h.1) (omega arith)
few_accepted old new (ask ∷ asked) out h = omega (arith, one_counts old h.0 ask h.1 h.3.3.0 h.3.3.2, few_accepted h.0 new asked h.2 h.4)
