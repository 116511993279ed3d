-- What a run over a keeper that tells comes to.
use Rattle.std.proofs.lemmas.List.{length-map}
use Rattle.std.proofs.Common.{◌≡◌, ℕ, ◌⊎◌, List, [], refl, sym, ap, ◌∙◌, subst, inl, inr, append-nil, ◌≤◌, arith, length, Option, Some, None}
use Rattle.shop_defs.specs.declared.row.Row.{Row}
use Rattle.shop_outside.specs.declared.keeper.Kept.{Kept}
use Rattle.shop_defs.specs.declared.key.Key.{Key}
use Rattle.shop_kept.specs.Spelling.{kept_row}
use Rattle.shop_check.specs.declared.fault.Rule.{Rule}
use Rattle.shop_check.specs.Damage.{Damage, first_damage}
use Rattle.shop_check.specs.Soundness.{Entry, kept}
use Rattle.shop_check.proofs.Entries.{kept_once}
use Rattle.shop_check.proofs.Laws.{undamaged}
use Rattle.shop_core.specs.declared.answers.OpenFault.{OpenFault}
use Rattle.shop_core.specs.declared.answers.OpenFault.TheVariants as opening
use Rattle.shop_core.specs.History.{State}
use Rattle.shop_core.specs.Opening.{Opens, HasOpenCause, IsLoaded, IsDamaged}
use Rattle.shop_outside.specs.Causes.{Rose}
use Rattle.shop_core.specs.Shops.{ShopView, IsShop, state_of}
use Rattle.shop_http.specs.Requests.{Ending, requests}
use Rattle.shop_http.specs.Laws.{longest}
use Rattle.shop_server.specs.declared.refusal.Refusal.{Refusal}
use Rattle.shop_server.specs.declared.session.Ended.{Ended}
use Rattle.shop_server.specs.declared.session.Ended.TheVariants.{Closed, HeadRefused, Spent, Truncated, ReadFault, WriteFault, NoMemory}
use Rattle.shop_server.specs.Answering.{DeskView, stand_of, Gives}
use Rattle.shop_server.specs.Cutting.{cut}
use Rattle.shop_server.specs.Lawful.{the_cut}
use Rattle.shop_server.specs.Outcome.{MayEnd}
use Rattle.shop_server.specs.Reports.{Report, report_of, reported, count_lines, damage_line}
use Rattle.shop_server.specs.Run.{Outside, number_of, number_at, number_unopened, IsCutShort, HasRun, HasConnected, IsWhole, HasChecked, HasReported, HasReportedText, ReportsFault, IsUnreported, Keeps, fatal_text, HasWritten}
use Rattle.shop_server.specs.Session.{Answers, AtMoment, Session, most_requests}
use Rattle.shop_server.proofs.Outputs.{written_by, unwritten}
use Rattle.shop_server.proofs.Settled.{outcome}
use Rattle.shop_server.proofs.Folds.{answers_fold}

-- ---- what was loaded

loaded_is : (content : Option Kept) (loaded held : Kept) → IsLoaded content loaded → content ≡ Some held → loaded ≡ held
loaded_is None loaded held l e = absurd cc
loaded_is (Some kept) loaded held l e = let same : kept ≡ held = cc in l.held ∙ same

-- a shop that was opened over a sound one is that one
opened_state : (content : Option Kept) (faults : ℕ) (shop : ShopView) (start : State) → Opens content faults shop → IsShop shop → Keeps content start → state_of shop ≡ start
opened_state content faults shop start o is k =
    let held : Kept = record { rows = kept start.rows; number = start.number } in
    let same : o.loaded ≡ held = loaded_is content o.loaded held o.is_loaded k.holds in
    let rows : shop.rows ≡ start.rows = kept_once shop.rows start.rows is.sound.each k.sound.each (o.rows ∙ ap (λ (l : Kept). l.rows) same) in
    let number : shop.number ≡ start.number = o.number ∙ ap (λ (l : Kept). l.number) same in
    λ i. record { rows = rows i; number = number i }

-- what is kept of a sound shop is never damaged
sound_undamaged : (content : Option Kept) (start : State) (key : Key) (rule : Rule) → Keeps content start → IsDamaged content key rule → ⊥
sound_undamaged content start key rule k d =
    let held : Kept = record { rows = kept start.rows; number = start.number } in
    let same : d.loaded ≡ held = loaded_is content d.loaded held d.is_loaded k.holds in
    let none : first_damage d.loaded.rows ≡ None = ap (λ (l : Kept). first_damage l.rows) same ∙ undamaged start.rows k.sound in
    let e = sym none ∙ d.damage in cc

-- what is damaged is never opened
never_opened : (content : Option Kept) (faults : ℕ) (shop : ShopView) (held : Kept) (damage : Damage) → Opens content faults shop → content ≡ Some held → first_damage held.rows ≡ Some damage → ⊥
never_opened content faults shop held damage o e d =
    let same = loaded_is content o.loaded held o.is_loaded e in
    let f = sym o.undamaged ∙ ap (λ (l : Kept). first_damage l.rows) same ∙ d in cc

-- ---- the status of a run

number_by : (ending : Ending Refusal) (ended : Ended) → MayEnd ending ended → IsCutShort (number_of ended) ⊎ (number_of ended ≡ number_at ending)
number_by ending ended (inl e) = inl (inl (ap number_of e))
number_by ending ended (inr (inl e)) = inl (inr (inl (ap number_of e)))
number_by ending ended (inr (inr (inl e))) = inl (inr (inr (inr (ap number_of e))))
number_by ending ended (inr (inr (inr e))) = inr (ap number_of e)

unopened_short : (content : Option Kept) (before now : ℕ) (start : State) (fault : OpenFault) → HasOpenCause content before now fault → Keeps content start → IsCutShort (number_unopened fault)
unopened_short content before now start opening.StoreFault c k = inr (inr (inl refl))
unopened_short content before now start opening.NoMemory c k = inr (inr (inr refl))
unopened_short content before now start (opening.Damaged key rule) c k = absurd (sound_undamaged content start key rule k c.1)

pub run_number : (before now : Outside) (number : ℕ) (all : List ℕ) (start : State) → HasRun before now number → before.left ≡ Some all → Keeps before.content start
    → IsCutShort number ⊎ (number ≡ number_at (requests cut most_requests all).ending)
run_number before now number all start (inl h) told k = inl (subst IsCutShort (sym h.status) (unopened_short before.content before.faults now.faults start h.fault h.cause k))
run_number before now number all start (inr h) told k =
    let c = h.connected in
    let session : Session (AtMoment Gives) fatal_text cut most_requests c.first c.last (Some all) now.left before.written now.written h.ended =
    subst (λ l. Session (AtMoment Gives) fatal_text cut most_requests c.first c.last l now.left before.written now.written h.ended) told c.session in
    let ending : Ending Refusal = (requests cut most_requests all).ending in
    subst (λ n. IsCutShort n ⊎ (n ≡ number_at ending)) (sym h.status)
    (number_by ending h.ended (outcome (AtMoment Gives) fatal_text cut longest the_cut most_requests c.first c.last all now.left before.written now.written h.ended session))

unopened_status : (fault : OpenFault) → IsCutShort (number_unopened fault) ⊎ (number_unopened fault ≡ 7)
unopened_status opening.StoreFault = inl (inr (inr (inl refl)))
unopened_status opening.NoMemory = inl (inr (inr (inr refl)))
unopened_status (opening.Damaged key rule) = inr refl

pub run_damaged : (before now : Outside) (number : ℕ) (held : Kept) (damage : Damage) → HasRun before now number → before.content ≡ Some held → first_damage held.rows ≡ Some damage
    → (IsCutShort number ⊎ (number ≡ 7)) × (now.written ≡ before.written)
run_damaged before now number held damage (inl h) e d = (subst (λ n. IsCutShort n ⊎ (n ≡ 7)) (sym h.status) (unopened_status h.fault), h.written)
run_damaged before now number held damage (inr h) e d = absurd (never_opened before.content before.faults h.shop held damage h.opened e d)

-- ---- what a run writes

unopened_rises : (content : Option Kept) (before now : ℕ) (fault : OpenFault) → HasOpenCause content before now fault → before ≤ now
unopened_rises content before now opening.StoreFault c = c.0
unopened_rises content before now opening.NoMemory c = omega arith
unopened_rises content before now (opening.Damaged key rule) c = omega (arith, c.0)

pub run_written : (before now : Outside) (number : ℕ) (all kept : List ℕ) (start : State) → HasRun before now number → before.left ≡ Some all → before.written ≡ Some kept → Keeps before.content start
    → HasWritten start before.coming before.faults now.faults all kept now.written number
run_written before now number all kept start (inl h) told begun k =
    unwritten start before.coming before.faults now.faults (unopened_rises before.content before.faults now.faults h.fault h.cause) all kept now.written number (h.written ∙ begun)
    (subst IsCutShort (sym h.status) (unopened_short before.content before.faults now.faults start h.fault h.cause k))
run_written before now number all kept start (inr h) told begun k =
    let c = h.connected in
    let session : Session (AtMoment Gives) fatal_text cut most_requests c.first c.last (Some all) now.left (Some kept) now.written h.ended =
    subst (λ w. Session (AtMoment Gives) fatal_text cut most_requests c.first c.last (Some all) now.left w now.written h.ended) begun
    (subst (λ l. Session (AtMoment Gives) fatal_text cut most_requests c.first c.last l now.left before.written now.written h.ended) told c.session) in
    let state : stand_of c.first ≡ start = ap state_of c.begins ∙ opened_state before.content before.faults h.shop start h.opened h.is_shop k in
    let faults : c.first.answerer.faults ≡ before.faults = ap (λ (v : ShopView). v.faults) c.begins ∙ h.opened.same_faults in
    subst (λ s. HasWritten s before.coming before.faults now.faults all kept now.written number) state
    (subst (λ m. HasWritten (stand_of c.first) m before.faults now.faults all kept now.written number) c.told
    (subst (λ f. HasWritten (stand_of c.first) c.first.coming f now.faults all kept now.written number) faults
    (subst (λ f. HasWritten (stand_of c.first) c.first.coming c.first.answerer.faults f all kept now.written number) (sym c.faults)
    (subst (λ n. HasWritten (stand_of c.first) c.first.coming c.first.answerer.faults c.last.answerer.faults all kept now.written n) (sym h.status)
    (written_by c.first c.last all kept now.left now.written h.ended session)))))

-- ---- the status of a check

unreported_number : (fault : OpenFault) → IsUnreported fault → IsCutShort (number_unopened fault)
unreported_number opening.StoreFault u = inr (inr (inl refl))
unreported_number opening.NoMemory u = inr (inr (inr refl))
unreported_number (opening.Damaged key rule) u = absurd u

pub check_number : (before now : Outside) (number : ℕ) (held : Kept) → HasChecked before now number → before.content ≡ Some held → IsCutShort number ⊎ (number ≡ (report_of held).status)
check_number before now number held (inl h) e = inl (subst IsCutShort (sym h.0.status) (unreported_number h.0.fault h.1))
check_number before now number held (inr h) e = elim h.reported.2 as (λ _. IsCutShort number ⊎ (number ≡ (report_of held).status)) [
  | inl k ↦ inr (k.0 ∙ ap (λ (l : Kept). (report_of l).status) (loaded_is before.content h.loaded held h.is_loaded e))
  | inr (inl k) ↦ inl (inr (inl k.0))
  | inr (inr k) ↦ inl (inr (inr (inr k.0)))
]

-- a sound shop is reported as one
pub check_sound : (before now : Outside) (number : ℕ) (start : State) → HasChecked before now number → Keeps before.content start → IsCutShort number ⊎ (number ≡ 0)
check_sound before now number start h k =
    let held : Kept = record { rows = kept start.rows; number = start.number } in
    let status : (report_of held).status ≡ 0 = ap (λ d. (reported held d).status) (undamaged start.rows k.sound) in
    subst (λ n. IsCutShort number ⊎ (number ≡ n)) status (check_number before now number held h k.holds)

-- ---- a connection over a shop

module _ (old new : DeskView) (left left' written written' : Option (List ℕ)) where
  abbrev Ran : Ended → Type 0
  Ran ended = Session (AtMoment Gives) fatal_text cut most_requests old new left left' written written' ended

  -- the responses to the requests answered, and how what was written fits them
  record HasText (ended : Ended) (s : Ran ended) : Type 0 where
    text : List ℕ
    answers : Answers (AtMoment Gives) old s.asked text new
    whole : IsWhole ended s text

  just : (ended : Ended) (s : Ran ended) → Answers (AtMoment Gives) old s.asked s.out new → HasText ended s
  just ended s a = record {
    text = s.out;
    answers = a;
    whole = record { tail = []; fatal = inl refl; front = ([], refl); all = inr (sym (append-nil s.out)) };
  }

  has_text : (ended : Ended) (s : Ran ended) → HasText ended s
  has_text Closed s = just Closed s s.how.1
  has_text Spent s = just Spent s s.how.1
  has_text Truncated s = just Truncated s s.how.1
  has_text ReadFault s = just ReadFault s s.how.1
  has_text NoMemory s = just NoMemory s s.how.1
  has_text HeadRefused s =
      let tail : List ℕ = fatal_text s.how.0 in
      record {
        text = s.how.1;
        answers = s.how.4;
        whole = record {
          tail = tail;
          fatal = inr (s.how.0, s.how.2, refl);
          front = ([], sym s.how.5 ∙ sym (append-nil s.out));
          all = inr s.how.5;
        };
      }
  has_text WriteFault s = elim s.how.3 as (λ _. HasText WriteFault s) [
    | inl h ↦ record {
      text = s.how.0;
      answers = h.1;
      whole = record { tail = []; fatal = inl refl; front = (s.how.1.0, append-nil s.how.0 ∙ s.how.1.1); all = inl refl };
    }
    | inr h ↦ record {
      text = h.1;
      answers = h.4;
      whole = record {
        tail = fatal_text h.0;
        fatal = inr (h.0, h.2, refl);
        front = (s.how.1.0, sym h.5 ∙ s.how.1.1);
        all = inl refl;
      };
    }
  ]

-- a session over a shop, as what is seen of all that was handed in
pub connected_of : (shop last : ShopView) (before now : Outside) (ended : Ended)
    → Session (AtMoment Gives) fatal_text cut most_requests (record { answerer = shop; coming = before.coming }) (record { answerer = last; coming = now.coming }) before.left now.left before.written now.written ended
    → IsShop last → now.content ≡ last.content → now.faults ≡ last.faults → HasConnected shop before now ended
connected_of shop last before now ended s is content faults =
    let first : DeskView = record { answerer = shop; coming = before.coming } in
    let end : DeskView = record { answerer = last; coming = now.coming } in
    let t = has_text first end before.left now.left before.written now.written ended s in
    let fold = answers_fold first end s.asked t.text t.answers in
    record {
      first = first;
      last = end;
      begins = refl;
      told = refl;
      session = s;
      served = fold.0;
      text = t.text;
      answered = fold.1;
      whole = t.whole;
      is_shop = is;
      content = content;
      faults = faults;
      coming = refl;
    }

-- ---- the other statuses of a check

reported_status : (held : Kept) (found : Option Damage) → ((reported held found).status ≡ 0) ⊎ ((reported held found).status ≡ 7)
reported_status held None = inl refl
reported_status held (Some damage) = inr refl

-- a report never ends with 2, 3 or 5
pub record Rare (number : ℕ) : Type 0 where
  pub usage : number ≡ 2 → ⊥
  pub read : number ≡ 3 → ⊥
  pub store : number ≡ 5 → ⊥

rare : (number n : ℕ) → number ≡ n → (n ≡ 2 → ⊥) → (n ≡ 3 → ⊥) → (n ≡ 5 → ⊥) → Rare number
rare number n e a b c = record { usage = λ h. a (sym e ∙ h); read = λ h. b (sym e ∙ h); store = λ h. c (sym e ∙ h) }

pub reported_rare : (before now : Outside) (number : ℕ) → HasReported before now number → Rare number
reported_rare before now number h = elim h.reported.2 as (λ _. Rare number) [
  | inl k ↦ elim (reported_status h.loaded (first_damage h.loaded.rows)) as (λ _. Rare number) [
    | inl z ↦ rare number 0 (k.0 ∙ z) (λ e. cc) (λ e. cc) (λ e. cc)
    | inr z ↦ rare number 7 (k.0 ∙ z) (λ e. cc) (λ e. cc) (λ e. cc)
  ]
  | inr (inl k) ↦ rare number 4 k.0 (λ e. cc) (λ e. cc) (λ e. cc)
  | inr (inr k) ↦ rare number 9 k.0 (λ e. cc) (λ e. cc) (λ e. cc)
]

unopened_not : (fault : OpenFault) → (number_unopened fault ≡ 2 → ⊥) × (number_unopened fault ≡ 3 → ⊥)
unopened_not opening.StoreFault = (λ e. cc, λ e. cc)
unopened_not opening.NoMemory = (λ e. cc, λ e. cc)
unopened_not (opening.Damaged key rule) = (λ e. cc, λ e. cc)

unopened_rose : (content : Option Kept) (before now : ℕ) (fault : OpenFault) → HasOpenCause content before now fault → number_unopened fault ≡ 5 → Rose before now
unopened_rose content before now opening.StoreFault c e = c.1
unopened_rose content before now opening.NoMemory c e = absurd cc
unopened_rose content before now (opening.Damaged key rule) c e = absurd cc

pub check_usage : (before now : Outside) (number : ℕ) → HasChecked before now number → number ≡ 2 → ⊥
check_usage before now number (inl h) e = (unopened_not h.0.fault).0 (sym h.0.status ∙ e)
check_usage before now number (inr h) e = (reported_rare before now number h).usage e

pub check_read : (before now : Outside) (number : ℕ) → HasChecked before now number → number ≡ 3 → ⊥
check_read before now number (inl h) e = (unopened_not h.0.fault).1 (sym h.0.status ∙ e)
check_read before now number (inr h) e = (reported_rare before now number h).read e

pub check_store : (before now : Outside) (number : ℕ) → HasChecked before now number → number ≡ 5 → Rose before.faults now.faults
check_store before now number (inl h) e = unopened_rose before.content before.faults now.faults h.0.fault h.0.cause (sym h.0.status ∙ e)
check_store before now number (inr h) e = absurd ((reported_rare before now number h).store e)

-- ---- checks

-- a shop that was opened is reported
pub opened_checked : (before now : Outside) (number : ℕ) (shop : ShopView) → Opens before.content before.faults shop
    → HasReportedText before.written now.written (count_lines (length shop.rows) shop.number) 0 number
    → now.left ≡ before.left → now.content ≡ shop.content → now.faults ≡ shop.faults → now.coming ≡ before.coming → HasChecked before now number
opened_checked before now number shop o t left content faults coming =
    let report : report_of o.loaded ≡ record { text = count_lines (length shop.rows) shop.number; status = 0 } =
    ap (reported o.loaded) o.undamaged
    ∙ ap (λ (l : List Entry). record { text = count_lines (length l) o.loaded.number; status = 0 }) (sym o.rows)
    ∙ ap (λ n. record { text = count_lines n o.loaded.number; status = 0 }) (length-map shop.rows (λ (row : Row). (row.key, kept_row row)))
    ∙ ap (λ n. record { text = count_lines (length shop.rows) n; status = 0 }) (sym o.number) in
    inr (record {
      loaded = o.loaded;
      is_loaded = o.is_loaded;
      reported = subst (λ (r : Report). HasReportedText before.written now.written r.text r.status number) (sym report) t;
      left = left;
      content = content ∙ o.same_content;
      faults = faults ∙ o.same_faults;
      coming = coming;
    })

-- and so is what is damaged
pub unopened_checked : (before now : Outside) (number : ℕ) (fault : OpenFault) → HasOpenCause before.content before.faults now.faults fault
    → ReportsFault fault before.written now.written number → now.left ≡ before.left → now.content ≡ before.content → now.coming ≡ before.coming → HasChecked before now number
unopened_checked before now number opening.StoreFault c r left content coming =
    inl (record { fault = opening.StoreFault; status = r.1; cause = c; left = left; written = r.0; content = content; coming = coming }, tt)
unopened_checked before now number opening.NoMemory c r left content coming =
    inl (record { fault = opening.NoMemory; status = r.1; cause = c; left = left; written = r.0; content = content; coming = coming }, tt)
unopened_checked before now number (opening.Damaged key rule) c r left content coming =
    let report : report_of c.1.loaded ≡ record { text = damage_line (key, rule); status = 7 } = ap (reported c.1.loaded) c.1.damage in
    inr (record {
      loaded = c.1.loaded;
      is_loaded = c.1.is_loaded;
      reported = subst (λ (r : Report). HasReportedText before.written now.written r.text r.status number) (sym report) r;
      left = left;
      content = content;
      faults = c.0;
      coming = coming;
    })
