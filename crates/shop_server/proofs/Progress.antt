-- How a connection comes forward, by what a cut has to keep alone.
use Rattle.std.proofs.Common.{◌≡◌, ℕ, zero, suc, ◌<◌, Bool, true, false, ◌||◌, ◌==◌, cond, List, [], ◌∷◌, ◌++◌, length, drop, refl, sym, ap, ◌∙◌, subst, inl, inr, arith, append_assoc, append-nil, ◌⊎◌, Err}
use Rattle.std.proofs.lemmas.List.{drop-append-le, length-append}
use Rattle.std.specs.Io.KnownBytes.{Consumes, Appends, IsAtEnd}
use Rattle.std.proofs.KnownBytes.{Consumes-nil, Consumes-trans, Appends-nil, Appends-trans}
use Rattle.shop_http.specs.Requests.{Request, Asked, Cuts, Front, whole, part, bad, Ending, open_at, refused, closing, spent, requests, with_front, IsCut, IsNextLook}
use Rattle.shop_server.specs.declared.session.Ended.{Ended}
use Rattle.shop_server.specs.declared.session.Ended.TheVariants.{Closed, HeadRefused, Spent, Truncated, ReadFault, WriteFault, NoMemory}
use Rattle.shop_server.specs.Session.{Answers, HasEnded, IsFront, Session}
use Rattle.shop_server.specs.declared.session.Step.{Step}
use Rattle.shop_server.specs.declared.session.Step.TheVariants.{Wanting, Answered, Over, Failed}
use Rattle.shop_server.specs.Serving.{Closes, HasGoneOn, HasStepped, IsCalm, IsOver, Standing, Progress}

-- ---- the list of requests, a step at a time

module _ {F : Type 0} (cut : List ℕ → Front F) where
  abbrev pub asks : Request → Bool → Asked
  asks r l = record { request = r; last = l }

  abbrev after_whole : ℕ → List ℕ → Request → ℕ → Bool → Cuts F
  after_whole n bytes r used closes = cond closes (record { asked = asks r true ∷ []; ending = closing }) (with_front (asks r (n == 0)) (requests cut n (drop used bytes)))

  abbrev step : ℕ → List ℕ → Front F → Cuts F
  step n bytes (whole r used) = after_whole n bytes r used r.closing
  step n bytes part = record { asked = []; ending = open_at bytes }
  step n bytes (bad f) = record { asked = []; ending = refused f }

  requests_step : (n : ℕ) (bytes : List ℕ) → requests cut (suc n) bytes ≡ step n bytes (cut bytes)
  unfolding requests
  requests_step n bytes = elim (cut bytes) as (λ v. (elim v as (λ u. Cuts F) [
    | whole r used ↦ cond r.closing (record { asked = record { request = r; last = true } ∷ []; ending = closing })
        (with_front (record { request = r; last = n == 0 }) (requests cut n (drop used bytes)))
    | part ↦ record { asked = []; ending = open_at bytes }
    | bad f ↦ record { asked = []; ending = refused f }
  ]) ≡ step n bytes v) [ whole r used ↦ refl | part ↦ refl | bad f ↦ refl ]

  pub none_left : (bytes : List ℕ) → requests cut zero bytes ≡ record { asked = []; ending = spent }
  unfolding requests
  none_left bytes = refl

  pub at_part : (n : ℕ) (bytes : List ℕ) → cut bytes ≡ part → requests cut (suc n) bytes ≡ record { asked = []; ending = open_at bytes }
  at_part n bytes h = requests_step n bytes ∙ ap (step n bytes) h

  pub at_bad : (n : ℕ) (bytes : List ℕ) (f : F) → cut bytes ≡ bad f → requests cut (suc n) bytes ≡ record { asked = []; ending = refused f }
  at_bad n bytes f h = requests_step n bytes ∙ ap (step n bytes) h

  pub at_last : (n : ℕ) (bytes : List ℕ) (r : Request) (used : ℕ) → cut bytes ≡ whole r used → r.closing ≡ true
      → requests cut (suc n) bytes ≡ record { asked = asks r true ∷ []; ending = closing }
  at_last n bytes r used h c = requests_step n bytes ∙ ap (step n bytes) h ∙ ap (after_whole n bytes r used) c

  pub at_whole : (n : ℕ) (bytes : List ℕ) (r : Request) (used : ℕ) → cut bytes ≡ whole r used → r.closing ≡ false
      → requests cut (suc n) bytes ≡ with_front (asks r (n == 0)) (requests cut n (drop used bytes))
  at_whole n bytes r used h c = requests_step n bytes ∙ ap (step n bytes) h ∙ ap (after_whole n bytes r used) c

  pub whole_is_settled : (bytes : List ℕ) (r : Request) (used : ℕ) → cut bytes ≡ whole r used → cut bytes ≡ part → ⊥
  whole_is_settled bytes r used h p = cc

-- ---- answers, one more at the end

module _ {A : Type 0} (gives : A → Asked → List ℕ → A → Type 0) where
  pub answers_push : (old now next : A) (asked : List Asked) (ask : Asked) (out response : List ℕ)
      → Answers gives old asked out now → gives now ask response next → Answers gives old (asked ++ ask ∷ []) (out ++ response) next
  answers_push old now next [] ask out response h g =
      let here : gives old ask response next = subst (λ s. gives s ask response next) h.1 g in
      (next, response, [], here, (refl, refl), ap (λ l. l ++ response) h.0 ∙ sym (append-nil response))
  answers_push old now next (a ∷ asked) ask out response h g =
      (h.0, h.1, h.2 ++ response, h.3, answers_push h.0 now next asked ask h.2 response h.4 g, ap (λ l. l ++ response) h.5 ∙ append_assoc h.1 h.2 response)

pub with_count : {F A : Type 0} (gives : A → Asked → List ℕ → A → Type 0) (cut : List ℕ → Front F) (most n m : ℕ) (first now : Standing A) → n ≡ m
    → Progress gives cut most n first now → Progress gives cut most m first now
with_count gives cut most n m first now e p = subst (λ k. Progress gives cut most k first now) e p

-- ---- the connection

module _ {F A : Type 0} (gives : A → Asked → List ℕ → A → Type 0) (fatal : F → List ℕ) (cut : List ℕ → Front F) (longest : ℕ) (law : IsCut cut longest) (most : ℕ) (first : Standing A) where
  abbrev At : ℕ → Standing A → Type 0
  At n now = Progress gives cut most n first now

  abbrev Done : Standing A → Ended → Type 0
  Done now ended = Session gives fatal cut most first.answerer now.answerer first.left now.left first.written now.written ended

  pub begun : first.input ≡ [] → first.due ≡ [] → At most first
  begun none due = record {
    got = [];
    asked = [];
    out = [];
    sent = [];
    read = Consumes-nil first.left;
    wrote = Appends-nil first.written;
    rest = sym due;
    answers = (refl, refl);
    listed = λ more. ap (λ bs. (requests cut most (bs ++ more)).asked) (sym none);
    ends = λ more. ap (λ bs. (requests cut most (bs ++ more)).ending) (sym none);
  }

  -- what was due was written, and a piece was read onto the end of the input
  pub gone_on : (n : ℕ) (now mid next : Standing A) (piece : List ℕ) → At n now → mid ≡ now → Appends mid.written next.written mid.due → next.due ≡ []
      → Consumes mid.left next.left piece → next.input ≡ mid.input ++ piece → next.answerer ≡ mid.answerer → At n next
  gone_on n now mid next piece p looked w none c e same = by (subst (λ s. At n s) (sym looked) p)
    where
      by : At n mid → At n next
      by p = record {
        got = p.got ++ piece;
        asked = p.asked;
        out = p.out;
        sent = p.out;
        read = Consumes-trans first.left mid.left next.left p.got piece p.read c;
        wrote = subst (λ l. Appends first.written next.written l) (sym p.rest) (Appends-trans first.written mid.written next.written p.sent mid.due p.wrote w);
        rest = sym (ap (λ d. p.out ++ d) none ∙ append-nil p.out);
        answers = subst (λ s. Answers gives first.answerer p.asked p.out s) (sym same) p.answers;
        listed = λ more. ap (λ bs. (requests cut most bs).asked) (append_assoc p.got piece more) ∙ p.listed (piece ++ more)
            ∙ ap (λ bs. p.asked ++ (requests cut n bs).asked) (sym (append_assoc mid.input piece more) ∙ ap (λ b. b ++ more) (sym e));
        ends = λ more. ap (λ bs. (requests cut most bs).ending) (append_assoc p.got piece more) ∙ p.ends (piece ++ more)
            ∙ ap (λ bs. (requests cut n bs).ending) (sym (append_assoc mid.input piece more) ∙ ap (λ b. b ++ more) (sym e));
      }

  -- with something behind it, what was sent is something
  more_than : (sent more : List ℕ) → 0 < length more → 0 < length (sent ++ more)
  more_than sent more some = omega (arith, length-append sent more)

  -- what was sent and what is due, with more behind it
  due_more : (n : ℕ) (now : Standing A) (p : At n now) (more : List ℕ) → p.out ++ more ≡ p.sent ++ (now.due ++ more)
  due_more n now p more = ap (λ l. l ++ more) p.rest ∙ append_assoc p.sent now.due more

  -- a front of what is due and of more
  due_front : (n : ℕ) (now : Standing A) (p : At n now) (more front : List ℕ) → IsFront front (now.due ++ more) → IsFront (p.sent ++ front) (p.out ++ more)
  due_front n now p more front f = (f.0, due_more n now p more ∙ ap (λ l. p.sent ++ l) f.1 ∙ sym (append_assoc p.sent front f.0))

  -- a request was answered, and the connection goes on; a front of what was due then was written
  pub answered : (n : ℕ) (now next : Standing A) (response front : List ℕ) (r : Request) (used : ℕ) (last : Bool) → At (suc n) now
      → cut now.input ≡ whole r used → r.closing ≡ false → last ≡ (r.closing || (n == 0)) → gives now.answerer (record { request = r; last = last }) response next.answerer
      → Appends now.written next.written front → now.due ++ response ≡ front ++ next.due → next.left ≡ now.left → next.input ≡ drop used now.input → At n next
  answered n now next response front r used last p h stays is_last g a due unread e =
      let ask : Asked = record { request = r; last = n == 0 } in
      let given : gives now.answerer ask response next.answerer =
      subst (λ b. gives now.answerer (record { request = r; last = b }) response next.answerer) (is_last ∙ ap (λ b. b || (n == 0)) stays) g in
      let forth : (more : List ℕ) → requests cut (suc n) (now.input ++ more) ≡ with_front ask (requests cut n (next.input ++ more)) = λ more.
      at_whole cut n (now.input ++ more) r used (law.settled now.input more (whole_is_settled cut now.input r used h) ∙ h) stays
      ∙ ap (λ bs. with_front ask (requests cut n bs)) (drop-append-le used now.input more (law.takes now.input r used h).1 ∙ ap (λ b. b ++ more) (sym e)) in
      record {
        got = p.got;
        asked = p.asked ++ ask ∷ [];
        out = p.out ++ response;
        sent = p.sent ++ front;
        read = subst (λ l. Consumes first.left l p.got) (sym unread) p.read;
        wrote = Appends-trans first.written now.written next.written p.sent front p.wrote a;
        rest = due_more (suc n) now p response ∙ ap (λ l. p.sent ++ l) due ∙ sym (append_assoc p.sent front next.due);
        answers = answers_push gives first.answerer now.answerer next.answerer p.asked ask p.out response p.answers given;
        listed = λ more. p.listed more ∙ ap (λ c. p.asked ++ c.asked) (forth more) ∙ sym (append_assoc p.asked (ask ∷ []) (requests cut n (next.input ++ more)).asked);
        ends = λ more. p.ends more ∙ ap (λ c. c.ending) (forth more);
      }

  -- the requests of the bytes read
  abbrev All : List ℕ → Cuts F
  All got = requests cut most got

  listed_all : (k : ℕ) (now : Standing A) (p : At k now) → (All p.got).asked ≡ p.asked ++ (requests cut k now.input).asked
  listed_all k now p =
      ap (λ bs. (requests cut most bs).asked) (sym (append-nil p.got)) ∙ p.listed [] ∙ ap (λ bs. p.asked ++ (requests cut k bs).asked) (append-nil now.input)

  ends_so : (k : ℕ) (now : Standing A) (p : At k now) (c : Cuts F) → requests cut k now.input ≡ c → (All p.got).ending ≡ c.ending
  ends_so k now p c h =
      ap (λ bs. (requests cut most bs).ending) (sym (append-nil p.got)) ∙ p.ends [] ∙ ap (λ bs. (requests cut k bs).ending) (append-nil now.input) ∙ ap (λ c. c.ending) h

  -- what is left lists no more
  listed_none : (k : ℕ) (now : Standing A) (p : At k now) (e : Ending F) → requests cut k now.input ≡ record { asked = []; ending = e } → p.asked ≡ (All p.got).asked
  listed_none k now p e h = sym (listed_all k now p ∙ ap (λ c. p.asked ++ c.asked) h ∙ append-nil p.asked)

  -- nothing more was read
  read_so : (k : ℕ) (now next : Standing A) (p : At k now) → next.left ≡ now.left → Consumes first.left next.left p.got
  read_so k now next p unread = subst (λ l. Consumes first.left l p.got) (sym unread) p.read

  all_front : (asked : List Asked) (got : List ℕ) → asked ≡ (All got).asked → IsFront asked (All got).asked
  all_front asked got e = ([], sym e ∙ sym (append-nil asked))

  -- ---- the connection is over as soon as what is due is written

  -- by answers alone
  quiet : (now : Standing A) (got : List ℕ) (asked : List Asked) (sent total : List ℕ) (ended : Ended) → Consumes first.left now.left got → Appends first.written now.written sent
      → total ≡ sent ++ now.due → asked ≡ (All got).asked → Answers gives first.answerer asked total now.answerer
      → HasEnded gives fatal (All got) first.answerer now.answerer asked total now.left ended → Closes gives fatal cut most first now ended []
  quiet now got asked sent total ended read wrote rest all answers how =
      let same : total ≡ sent ++ (now.due ++ []) = rest ∙ ap (λ d. sent ++ d) (sym (append-nil now.due)) in
      record {
        got = got;
        asked = asked;
        sent = sent;
        read = read;
        wrote = wrote;
        whole = subst (λ o. HasEnded gives fatal (All got) first.answerer now.answerer asked o now.left ended) same how;
        short = λ o f some. (total, subst (λ l. IsFront o l) (sym same) f, subst (λ l. 0 < length l) (sym same) (more_than sent (now.due ++ []) some), inl (all_front asked got all, answers));
      }

  pub closed_at_end : (n : ℕ) (now : Standing A) → At (suc n) now → cut now.input ≡ part → IsAtEnd now.left → now.input ≡ [] → Closes gives fatal cut most first now Closed []
  closed_at_end n now p h end none =
      let c = at_part cut n now.input h in
      let all = listed_none (suc n) now p (open_at now.input) c in
      quiet now p.got p.asked p.sent p.out Closed p.read p.wrote p.rest all p.answers
      (all, p.answers, inr (ends_so (suc n) now p (record { asked = []; ending = open_at now.input }) c ∙ ap open_at none, end))

  pub truncated : (n : ℕ) (now : Standing A) → At (suc n) now → cut now.input ≡ part → IsAtEnd now.left → 0 < length now.input → Closes gives fatal cut most first now Truncated []
  truncated n now p h end some =
      let c = at_part cut n now.input h in
      let all = listed_none (suc n) now p (open_at now.input) c in
      quiet now p.got p.asked p.sent p.out Truncated p.read p.wrote p.rest all p.answers
      (all, p.answers, (now.input, some, ends_so (suc n) now p (record { asked = []; ending = open_at now.input }) c), end)

  pub all_spent : (now : Standing A) → At zero now → Closes gives fatal cut most first now Spent []
  all_spent now p =
      let c = none_left cut now.input in
      let all = listed_none zero now p spent c in
      quiet now p.got p.asked p.sent p.out Spent p.read p.wrote p.rest all p.answers (all, p.answers, ends_so zero now p (record { asked = []; ending = spent }) c)

  pub asked_to_close : (n : ℕ) (now next : Standing A) (response front : List ℕ) (r : Request) (used : ℕ) (last : Bool) → At (suc n) now → cut now.input ≡ whole r used → r.closing ≡ true
      → last ≡ (r.closing || (n == 0)) → gives now.answerer (record { request = r; last = last }) response next.answerer
      → Appends now.written next.written front → now.due ++ response ≡ front ++ next.due → next.left ≡ now.left → Closes gives fatal cut most first next Closed []
  asked_to_close n now next response front r used last p h closes is_last g a due unread =
      let ask : Asked = record { request = r; last = true } in
      let given : gives now.answerer ask response next.answerer =
      subst (λ b. gives now.answerer (record { request = r; last = b }) response next.answerer) (is_last ∙ ap (λ b. b || (n == 0)) closes) g in
      let c = at_last cut n now.input r used h closes in
      let all : p.asked ++ ask ∷ [] ≡ (All p.got).asked = sym (listed_all (suc n) now p ∙ ap (λ c. p.asked ++ c.asked) c) in
      let answers = answers_push gives first.answerer now.answerer next.answerer p.asked ask p.out response p.answers given in
      quiet next p.got (p.asked ++ ask ∷ []) (p.sent ++ front) (p.out ++ response) Closed (read_so (suc n) now next p unread)
      (Appends-trans first.written now.written next.written p.sent front p.wrote a)
      (due_more (suc n) now p response ∙ ap (λ l. p.sent ++ l) due ∙ sym (append_assoc p.sent front next.due)) all answers
      (all, answers, inl (ends_so (suc n) now p (record { asked = ask ∷ []; ending = closing }) c))

  pub head_refused : (n : ℕ) (now : Standing A) (f : F) (reply : List ℕ) → At (suc n) now → cut now.input ≡ bad f → reply ≡ fatal f → Closes gives fatal cut most first now HeadRefused reply
  head_refused n now f reply p h is =
      let c = at_bad cut n now.input f h in
      let all = listed_none (suc n) now p (refused f) c in
      let ends = ends_so (suc n) now p (record { asked = []; ending = refused f }) c in
      let same : p.sent ++ (now.due ++ reply) ≡ p.out ++ fatal f = sym (due_more (suc n) now p reply) ∙ ap (λ l. p.out ++ l) is in
      record {
        got = p.got;
        asked = p.asked;
        sent = p.sent;
        read = p.read;
        wrote = p.wrote;
        whole = (f, p.out, ends, all, p.answers, same);
        short = λ o front some. (p.sent ++ (now.due ++ reply), front, more_than p.sent (now.due ++ reply) some, inr (f, p.out, ends, all, p.answers, same));
      }

  -- and it was written, or a front of it
  pub finished : (now next : Standing A) (ended result : Ended) (reply front : List ℕ) → Closes gives fatal cut most first now ended reply → IsFront front (now.due ++ reply)
      → Appends now.written next.written front → ((result ≡ ended) × (front ≡ now.due ++ reply)) ⊎ ((result ≡ WriteFault) × (0 < length (now.due ++ reply))) → next.left ≡ now.left → next.answerer ≡ now.answerer → Done next result
  finished now next ended result reply front c f a how unread same =
      let out : List ℕ = c.sent ++ front in
      let begun : IsFront out (c.sent ++ (now.due ++ reply)) = (f.0, ap (λ l. c.sent ++ l) f.1 ∙ sym (append_assoc c.sent front f.0)) in
      let here : HasEnded gives fatal (All c.got) first.answerer now.answerer c.asked out now.left result =
      elim how as (λ _. HasEnded gives fatal (All c.got) first.answerer now.answerer c.asked out now.left result) [
        | inl k ↦ subst (λ e. HasEnded gives fatal (All c.got) first.answerer now.answerer c.asked out now.left e) (sym k.0)
            (subst (λ o. HasEnded gives fatal (All c.got) first.answerer now.answerer c.asked o now.left ended) (ap (λ l. c.sent ++ l) (sym k.1)) c.whole)
        | inr k ↦ subst (λ e. HasEnded gives fatal (All c.got) first.answerer now.answerer c.asked out now.left e) (sym k.0) (c.short out begun k.1)
      ] in
      record {
        got = c.got;
        asked = c.asked;
        out = out;
        read = subst (λ l. Consumes first.left l c.got) (sym unread) c.read;
        wrote = Appends-trans first.written now.written next.written c.sent front c.wrote a;
        how = subst (λ s. HasEnded gives fatal (All c.got) first.answerer s c.asked out next.left result) (sym same)
            (subst (λ l. HasEnded gives fatal (All c.got) first.answerer now.answerer c.asked out l result) (sym unread) here);
      }

  -- ---- the connection is over

  -- what was due couldn't be written whole
  pub cut_off : (n : ℕ) (now mid next : Standing A) (front : List ℕ) → At (suc n) now → mid ≡ now → IsFront front mid.due → 0 < length mid.due → Appends mid.written next.written front
      → next.left ≡ mid.left → next.answerer ≡ mid.answerer → Done next WriteFault
  cut_off n now mid next front p looked f some a unread same = by (subst (λ s. At (suc n) s) (sym looked) p)
    where
      by : At (suc n) mid → Done next WriteFault
      by p = record {
        got = p.got;
        asked = p.asked;
        out = p.sent ++ front;
        read = read_so (suc n) mid next p unread;
        wrote = Appends-trans first.written mid.written next.written p.sent front p.wrote a;
        how = (
          p.out,
          (f.0, p.rest ∙ ap (λ l. p.sent ++ l) f.1 ∙ sym (append_assoc p.sent front f.0)),
          subst (λ l. 0 < length l) (sym p.rest) (more_than p.sent mid.due some),
          inl (((requests cut (suc n) mid.input).asked, listed_all (suc n) mid p), subst (λ s. Answers gives first.answerer p.asked p.out s) (sym same) p.answers),
        );
      }

  -- nothing is due
  all_sent : (k : ℕ) (now : Standing A) (p : At k now) → now.due ≡ [] → p.sent ≡ p.out
  all_sent k now p none = sym (p.rest ∙ ap (λ d. p.sent ++ d) none ∙ append-nil p.sent)

  pub read_failed : (n : ℕ) (now : Standing A) → At (suc n) now → cut now.input ≡ part → now.due ≡ [] → Done now ReadFault
  read_failed n now p h none =
      let c = at_part cut n now.input h in
      record {
        got = p.got;
        asked = p.asked;
        out = p.out;
        read = p.read;
        wrote = subst (λ l. Appends first.written now.written l) (all_sent (suc n) now p none) p.wrote;
        how = (listed_none (suc n) now p (open_at now.input) c, p.answers, (now.input, ends_so (suc n) now p (record { asked = []; ending = open_at now.input }) c));
      }

  pub ran_out : (n : ℕ) (now : Standing A) → At (suc n) now → cut now.input ≡ part → now.due ≡ [] → Done now NoMemory
  ran_out n now p h none =
      let c = at_part cut n now.input h in
      record {
        got = p.got;
        asked = p.asked;
        out = p.out;
        read = p.read;
        wrote = subst (λ l. Appends first.written now.written l) (all_sent (suc n) now p none) p.wrote;
        how = (listed_none (suc n) now p (open_at now.input) c, p.answers, (now.input, ends_so (suc n) now p (record { asked = []; ending = open_at now.input }) c));
      }

  pub reply_cut : (n : ℕ) (now next : Standing A) (response front : List ℕ) (r : Request) (used : ℕ) (last : Bool) → At (suc n) now → cut now.input ≡ whole r used
      → last ≡ (r.closing || (n == 0)) → gives now.answerer (record { request = r; last = last }) response next.answerer
      → IsFront front (now.due ++ response) → 0 < length (now.due ++ response) → Appends now.written next.written front → next.left ≡ now.left → Done next WriteFault
  reply_cut n now next response front r used last p h is_last g part_of some a unread =
      let ask : Asked = record { request = r; last = last } in
      let begins : IsFront (ask ∷ []) (requests cut (suc n) now.input).asked =
      elim r.closing as (λ v. r.closing ≡ v → last ≡ (v || (n == 0)) → IsFront (ask ∷ []) (requests cut (suc n) now.input).asked) [
        | true ↦ λ c b. ([], ap (λ x. x.asked) (at_last cut n now.input r used h c) ∙ ap (λ v. asks cut r v ∷ []) (sym b))
        | false ↦ λ c b. ((requests cut n (drop used now.input)).asked, ap (λ x. x.asked) (at_whole cut n now.input r used h c) ∙ ap (λ v. asks cut r v ∷ (requests cut n (drop used now.input)).asked) (sym b))
      ] refl is_last in
      record {
        got = p.got;
        asked = p.asked ++ ask ∷ [];
        out = p.sent ++ front;
        read = read_so (suc n) now next p unread;
        wrote = Appends-trans first.written now.written next.written p.sent front p.wrote a;
        how = (
          p.out ++ response,
          due_front (suc n) now p response front part_of,
          subst (λ l. 0 < length l) (sym (due_more (suc n) now p response)) (more_than p.sent (now.due ++ response) some),
          inl (
            (begins.0, listed_all (suc n) now p ∙ ap (λ x. p.asked ++ x) begins.1 ∙ sym (append_assoc p.asked (ask ∷ []) begins.0)),
            answers_push gives first.answerer now.answerer next.answerer p.asked ask p.out response p.answers g,
          ),
        );
      }

  same_look : (now mid : Standing A) (least : ℕ) → mid ≡ now → IsNextLook cut now.input least → IsNextLook cut mid.input least
  same_look now mid least looked l = subst (λ (s : Standing A). IsNextLook cut s.input least) (sym looked) l

  -- more was wanted, and a call failed or there was no room
  pub went_off : (n least : ℕ) (now mid next : Standing A) (ended : Ended) → At (suc n) now → mid ≡ now → IsNextLook cut now.input least
      → HasGoneOn mid.left next.left mid.written next.written mid.due next.due mid.input next.input least (Err ended) → next.answerer ≡ mid.answerer → Done next ended
  went_off n least now mid next WriteFault p looked l w same = cut_off n now mid next w.0 p looked w.1 w.4 w.2 w.3 same
  went_off n least now mid next ReadFault p looked l w same =
      read_failed n next (gone_on (suc n) now mid next w.2 p looked w.0 w.1 w.3 w.4 same)
      (ap cut w.4 ∙ (same_look now mid least looked l).before w.2 (subst (λ bs. length bs < least) w.4 w.5)) w.1
  went_off n least now mid next NoMemory p looked l w same =
      ran_out n next (gone_on (suc n) now mid next w.2 p looked w.0 w.1 w.3 w.4 same)
      (ap cut w.4 ∙ (same_look now mid least looked l).before w.2 (subst (λ bs. length bs < least) w.4 w.5)) w.1
  went_off n least now mid next Closed p looked l w same = absurd w
  went_off n least now mid next HeadRefused p looked l w same = absurd w
  went_off n least now mid next Spent p looked l w same = absurd w
  went_off n least now mid next Truncated p looked l w same = absurd w

-- a step that is over with a reply
pub over_stepped : {F A : Type 0} (gives : A → Asked → List ℕ → A → Type 0) (fatal : F → List ℕ) (cut : List ℕ → Front F) (n : ℕ) (old new : Standing A) (input_ended : Bool) (step : Step) (ended : Ended) (reply : List ℕ)
    → IsOver ended reply step → ((most : ℕ) (first : Standing A) → Progress gives cut most (suc n) first old → Closes gives fatal cut most first new ended reply)
    → HasStepped gives fatal cut n old new input_ended step
over_stepped gives fatal cut n old new input_ended (Wanting least) ended reply o c = absurd o
over_stepped gives fatal cut n old new input_ended Answered ended reply o c = absurd o
over_stepped gives fatal cut n old new input_ended (Over e r) ended reply o c = λ most first p.
    subst (λ x. Closes gives fatal cut most first new x r.now) (sym o.0) (subst (λ l. Closes gives fatal cut most first new ended l) (sym o.1) (c most first p))
over_stepped gives fatal cut n old new input_ended Failed ended reply o c = absurd o

pub over_calm : (step : Step) (ended : Ended) (reply : List ℕ) → IsOver ended reply step → (ended ≡ ReadFault → ⊥) → (ended ≡ WriteFault → ⊥) → IsCalm step
over_calm (Wanting least) ended reply o a b = tt
over_calm Answered ended reply o a b = tt
over_calm (Over e r) ended reply o a b = (λ h. a (sym o.0 ∙ h), λ h. b (sym o.0 ∙ h))
over_calm Failed ended reply o a b = tt
