-- What is written is a front of the output for the whole input.
use Rattle.std.proofs.Common.{◌≡◌, ℕ, ℤ, pos, ◌+◌, ◌≤◌, List, [], ◌∷◌, ◌++◌, refl, sym, ap, ◌∙◌, subst, inl, inr, append_assoc, append-nil, Option, Some, None, arith, rules}
use Rattle.std.specs.Io.KnownBytes.{Consumes, Appends, IsAtEnd}
use Rattle.shop_outside.specs.Clocks.{Ticks}
use Rattle.idx_copy.specs.Copies.{CopyView}
use Rattle.shop_core.specs.History.{State}
use Rattle.shop_server.specs.declared.refusal.Refusal.{Refusal}
use Rattle.shop_http.specs.Requests.{Asked, Cuts, Ending, open_at, refused, closing, spent, requests}
use Rattle.shop_server.specs.Cutting.{cut}
use Rattle.shop_http.specs.Laws.{longest}
use Rattle.shop_server.specs.Lawful.{the_cut}
use Rattle.shop_server.specs.declared.session.Ended.{Ended}
use Rattle.shop_server.specs.declared.session.Ended.TheVariants.{Closed, HeadRefused, Spent, Truncated, ReadFault, WriteFault, NoMemory}
use Rattle.shop_server.specs.Session.{AtMoment, InRange, Session, Answers, IsFront, most_requests}
use Rattle.shop_server.specs.Answering.{DeskView, stand_of, Gives, AnswersBy, Served, Form, form_of, worked_out, IsOf, AreServed, RoseBy, failures, served_text, after_served}
use Rattle.shop_server.proofs.Folds.{answers_fold}
use Rattle.shop_server.specs.Run.{number_of, fatal_text, fatal_end, IsOutput, IsCutShort, HasWritten}
use Rattle.shop_server.specs.Outcome.{IsSettled}
use Rattle.shop_server.proofs.Settled.{front_trans, requests_stay, requests_grow}

-- ---- fronts of lists

pub front_of_all : {X : Type 0} (xs : List X) → IsFront xs xs
front_of_all xs = ([], sym (append-nil xs))

-- ---- answers

module _ {A : Type 0} (gives : A → Asked → List ℕ → A → Type 0) where
  -- some answers and then others
  pub answers_join : (old mid new : A) (xs ys : List Asked) (out more : List ℕ) → Answers gives old xs out mid → Answers gives mid ys more new → Answers gives old (xs ++ ys) (out ++ more) new
  answers_join old mid new [] ys out more h g = subst (λ l. Answers gives old ys (l ++ more) new) (sym h.0) (subst (λ s. Answers gives s ys more new) h.1 g)
  answers_join old mid new (x ∷ xs) ys out more h g =
      (h.0, h.1, h.2 ++ more, h.3, answers_join h.0 mid new xs ys h.2 more h.4 g, ap (λ l. l ++ more) h.5 ∙ append_assoc h.1 h.2 more)

-- the moments to come after the next one
abbrev later : Option (ℕ → ℤ) → Option (ℕ → ℤ)
later None = None
later (Some told) = Some (λ k. told (k + 1))

-- a moment that the clock may give
abbrev next_moment : Option (ℕ → ℤ) → ℤ
next_moment None = pos 0
next_moment (Some told) = told 0

moment_in_range : (coming : Option (ℕ → ℤ)) → InRange coming (next_moment coming)
moment_in_range None = (search (rules, arith), search (rules, arith))
moment_in_range (Some told) = tt

moment_ticks : (coming : Option (ℕ → ℤ)) → Ticks coming (later coming) (next_moment coming)
moment_ticks None = refl
moment_ticks (Some told) = (refl, λ k. refl)

-- a request of a form, answered by the rows
abbrev worked : DeskView → Form → Asked → Served
worked desk form ask = record { form = form; last = ask.last; moment = next_moment desk.coming; published = 0; way = worked_out }

abbrev left_behind : DeskView → Served → DeskView
left_behind desk one =
    let state = after_served (stand_of desk) one in
    record {
      answerer = record {
        rows = state.rows;
        number = state.number;
        content = desk.answerer.content;
        faults = desk.answerer.faults;
        copy = desk.answerer.copy;
        pending = desk.answerer.pending;
      };
      coming = later desk.coming;
    }

answers_so : (desk : DeskView) (form : Form) (ask : Asked) → IsOf ask.request form
    → AnswersBy (worked desk form ask) desk.answerer ask (served_text (stand_of desk) (worked desk form ask)) (left_behind desk (worked desk form ask)).answerer
answers_so desk form ask is = record {
  form = is;
  last = refl;
  may = (tt, omega arith);
  text = refl;
  left = refl;
  counts = refl;
  untouched = tt;
  told = refl;
}

-- requests always have answers
pub answers_exist : (old : DeskView) (asked : List Asked) → (out : List ℕ) × (new : DeskView) × Answers (AtMoment Gives) old asked out new × (new.answerer.faults ≡ old.answerer.faults)
answers_exist old [] = ([], old, (refl, refl), refl)
answers_exist old (ask ∷ asked) =
    let form : Form = form_of ask.request in
    let one : Served = worked old form ask in
    let next : DeskView = left_behind old one in
    let response : List ℕ = served_text (stand_of old) one in
    let rest = answers_exist next asked in
    let here : AtMoment Gives old ask response next = (next_moment old.coming, moment_in_range old.coming, moment_ticks old.coming, (one, refl, answers_so old form ask refl)) in
    (response ++ rest.0, rest.1, (next, response, rest.0, here, rest.2, refl), rest.3)

-- ---- what is written

told_more : (before : List ℕ) (written : Option (List ℕ)) (out : List ℕ) → Appends (Some before) written out → written ≡ Some (before ++ out)
told_more before None out a = absurd a
told_more before (Some now) out a = ap Some a

told_rest : (all got : List ℕ) (left : Option (List ℕ)) → Consumes (Some all) left got → (rest : List ℕ) × (all ≡ got ++ rest) × (IsAtEnd left → all ≡ got)
told_rest all got None c = absurd c
told_rest all got (Some rest) c = (rest, c, λ e. c ∙ ap (λ r. got ++ r) e ∙ append-nil got)

module _ (first last : DeskView) (all before : List ℕ) (left' written' : Option (List ℕ)) where
  abbrev Ran : Ended → Type 0
  Ran ended = Session (AtMoment Gives) fatal_text cut most_requests first last (Some all) left' (Some before) written' ended

  abbrev cuts_of : List ℕ → Cuts Refusal
  cuts_of bytes = requests cut most_requests bytes

  abbrev Wrote : ℕ → Type 0
  Wrote number = HasWritten (stand_of first) first.coming first.answerer.faults last.answerer.faults all before written' number

  output_of : (cuts : Cuts Refusal) (asked : List Asked) (body output : List ℕ) (end : DeskView) → Answers (AtMoment Gives) first asked body end
      → end.answerer.faults ≡ last.answerer.faults → asked ≡ cuts.asked
      → output ≡ body ++ fatal_end cuts.ending → IsOutput (stand_of first) first.coming first.answerer.faults last.answerer.faults cuts output
  output_of cuts asked body output end h same e o =
      let fold = answers_fold first end asked body h in (
        fold.0,
        subst (λ l. AreServed (stand_of first) l fold.0) e fold.1.each,
        fold.1.moments,
        subst (λ n. RoseBy (failures fold.0) first.answerer.faults n) same fold.1.counts,
        o ∙ ap (λ l. l ++ fatal_end cuts.ending) fold.1.text,
      )

  -- the whole output was written
  whole_output : (number : ℕ) (body out : List ℕ) (asked : List Asked) → Appends (Some before) written' out → Answers (AtMoment Gives) first asked body last
      → asked ≡ (cuts_of all).asked → out ≡ body ++ fatal_end (cuts_of all).ending → Wrote number
  whole_output number body out asked a h e o =
      (out, out, output_of (cuts_of all) asked body out last h refl e o, told_more before written' out a, front_of_all out, inr refl)

  -- a front of it was written
  front_output : (number : ℕ) (full out : List ℕ) (asked : List Asked) → Appends (Some before) written' out → Answers (AtMoment Gives) first asked full last
      → IsFront asked (cuts_of all).asked → IsFront out full → IsCutShort number → Wrote number
  front_output number full out asked a h front f short =
      let others = answers_exist last front.0 in
      let body : List ℕ = full ++ others.0 in
      let answers : Answers (AtMoment Gives) first (cuts_of all).asked body others.1 =
      subst (λ l. Answers (AtMoment Gives) first l body others.1) (sym front.1) (answers_join (AtMoment Gives) first last others.1 asked front.0 full others.0 h others.2) in
      let output : List ℕ = body ++ fatal_end (cuts_of all).ending in
      let more : IsFront full output = (others.0 ++ fatal_end (cuts_of all).ending, append_assoc full others.0 (fatal_end (cuts_of all).ending)) in
      (output, out, output_of (cuts_of all) (cuts_of all).asked body output others.1 answers others.3 refl refl, told_more before written' out a, front_trans out full output f more, inl short)

  -- the requests of all bytes are those of the bytes read, where the list has come to an end
  same_cuts : (ended : Ended) (s : Ran ended) (e : Ending Refusal) → (cuts_of s.got).ending ≡ e → IsSettled e → cuts_of all ≡ cuts_of s.got
  same_cuts ended s e h k =
      let r = told_rest all s.got left' s.read in
      ap cuts_of r.1 ∙ requests_stay cut longest the_cut most_requests s.got r.0 (subst IsSettled (sym h) k)

  -- or where all bytes were read
  same_at_end : (ended : Ended) (s : Ran ended) → IsAtEnd left' → cuts_of all ≡ cuts_of s.got
  same_at_end ended s e = ap cuts_of ((told_rest all s.got left' s.read).2 e)

  read_front : (ended : Ended) (s : Ran ended) → IsFront (cuts_of s.got).asked (cuts_of all).asked
  read_front ended s =
      let r = told_rest all s.got left' s.read in
      subst (λ bs. IsFront (cuts_of s.got).asked (cuts_of bs).asked) (sym r.1) (requests_grow cut longest the_cut most_requests s.got r.0)

  -- everything was answered and nothing more is due
  all_answered : (ended : Ended) (s : Ran ended) (number : ℕ) (e : Ending Refusal) → fatal_end e ≡ [] → s.asked ≡ (cuts_of s.got).asked → Answers (AtMoment Gives) first s.asked s.out last
      → (cuts_of s.got).ending ≡ e → cuts_of all ≡ cuts_of s.got → Wrote number
  all_answered ended s number e none h a is same =
      whole_output number s.out s.out s.asked s.wrote a (h ∙ ap (λ c. c.asked) (sym same))
      (sym (ap (λ l. s.out ++ l) (ap (λ c. fatal_end c.ending) same ∙ ap fatal_end is ∙ none) ∙ append-nil s.out))

  pub written_by : (ended : Ended) → Ran ended → Wrote (number_of ended)
  written_by Closed s = elim s.how.2 as (λ _. Wrote 0) [
    | inl c ↦ all_answered Closed s 0 closing refl s.how.0 s.how.1 c (same_cuts Closed s closing c tt)
    | inr o ↦ all_answered Closed s 0 (open_at []) refl s.how.0 s.how.1 o.0 (same_at_end Closed s o.1)
  ]
  written_by HeadRefused s =
      let same = same_cuts HeadRefused s (refused s.how.0) s.how.2 tt in
      whole_output 12 s.how.1 s.out s.asked s.wrote s.how.4 (s.how.3 ∙ ap (λ c. c.asked) (sym same))
      (s.how.5 ∙ ap (λ e. s.how.1 ++ fatal_end e) (sym (ap (λ c. c.ending) same ∙ s.how.2)))
  written_by Spent s = all_answered Spent s 10 spent refl s.how.0 s.how.1 s.how.2 (same_cuts Spent s spent s.how.2 tt)
  written_by Truncated s = all_answered Truncated s 6 (open_at s.how.2.0) refl s.how.0 s.how.1 s.how.2.2 (same_at_end Truncated s s.how.3)
  written_by ReadFault s =
      front_output 3 s.out s.out s.asked s.wrote s.how.1 (subst (λ l. IsFront l (cuts_of all).asked) (sym s.how.0) (read_front ReadFault s)) (front_of_all s.out) (inl refl)
  written_by WriteFault s = elim s.how.3 as (λ _. Wrote 4) [
    | inl h ↦
        front_output 4 s.how.0 s.out s.asked s.wrote h.1 (front_trans s.asked (cuts_of s.got).asked (cuts_of all).asked h.0 (read_front WriteFault s)) s.how.1 (inr (inl refl))
    | inr h ↦
        (let same = same_cuts WriteFault s (refused h.0) h.2 tt in (
          s.how.0,
          s.out,
          output_of (cuts_of all) s.asked h.1 s.how.0 last h.4 refl (h.3 ∙ ap (λ c. c.asked) (sym same))
              (h.5 ∙ ap (λ e. h.1 ++ fatal_end e) (sym (ap (λ c. c.ending) same ∙ h.2))),
          told_more before written' s.out s.wrote,
          s.how.1,
          inl (inr (inl refl)),
        ))
  ]
  written_by NoMemory s =
      front_output 9 s.out s.out s.asked s.wrote s.how.1 (subst (λ l. IsFront l (cuts_of all).asked) (sym s.how.0) (read_front NoMemory s)) (front_of_all s.out) (inr (inr (inr refl)))

-- where nothing was written, that is a front of the output
pub unwritten : (state : State) (coming : Option (ℕ → ℤ)) (faults now : ℕ) → faults ≤ now → (all before : List ℕ) (written : Option (List ℕ)) (number : ℕ)
    → written ≡ Some before → IsCutShort number → HasWritten state coming faults now all before written number
unwritten state coming faults now rises all before written number e short =
    let copy : CopyView = record { front = state.number; rows = state.rows; tables = record { paths = []; streams = []; listings = record { prices = []; lists = [] } } } in
    let desk : DeskView = record { answerer = record { rows = state.rows; number = state.number; content = None; faults = faults; copy = copy; pending = [] }; coming = coming } in
    let cuts : Cuts Refusal = requests cut most_requests all in
    let answers = answers_exist desk cuts.asked in
    let output : List ℕ = answers.0 ++ fatal_end cuts.ending in
    let fold = answers_fold desk answers.1 cuts.asked answers.0 answers.2 in
    let counts : RoseBy (failures fold.0) faults now = omega (arith, fold.1.counts, answers.3, rises) in
    (output, [], (fold.0, fold.1.each, fold.1.moments, counts, ap (λ l. l ++ fatal_end cuts.ending) fold.1.text), e ∙ ap Some (sym (append-nil before)), (output, refl), inl short)
