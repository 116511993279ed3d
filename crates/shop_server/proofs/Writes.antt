-- What is asked of a shop, as answers to requests.
use Rattle.std.proofs.Common.{◌≡◌, ℕ, ℤ, ◌+◌, ◌≤◌, Bool, List, is_some, Option, None, refl, sym, ap, ◌∙◌, subst, arith}
use Rattle.std.specs.Prelude.{Result, Ok, Err, IfOk, OnErr, OnOk}
use Rattle.shop_requests.specs.declared.command.Command.{Command}
use Rattle.shop_requests.specs.declared.line_fault.LineFault.{LineFault}
use Rattle.shop_requests.specs.declared.query.Query.{Query}
use Rattle.shop_requests.specs.declared.query.RowRead.{RowRead}
use Rattle.shop_defs.specs.declared.refused.Refused.{Refused}
use Rattle.shop_http.specs.declared.respond.Method2.{Method2}
use Rattle.shop_http.specs.Requests.{Asked}
use Rattle.shop_http.specs.Responses.{no_memory_text, response_text}
use Rattle.shop_core.specs.declared.answers.Done.{Done}
use Rattle.shop_core.specs.declared.answers.CommitFault.TheVariants as faults
use Rattle.shop_core.specs.declared.answers.Reply.TheVariants as replies
use Rattle.shop_core.specs.declared.answers.Request.TheVariants as requests
use Rattle.shop_core.specs.Commits.{Commits}
use Rattle.shop_core.specs.declared.answers.CommitFault.{CommitFault}
use Rattle.shop_core.specs.History.{State, after_step}
use Rattle.shop_defs.specs.declared.broken.Broken.{Broken}
use Rattle.shop_defs.specs.declared.row.Row.{Row}
use Rattle.product_meanings.specs.Direct.{Told, tree, members, price, page, direct}
use Rattle.shop_core.specs.Indexed.{direct_reply, indexed_answer, said_reply}
use Rattle.shop_core.specs.declared.answers.Reply.{Reply}
use Rattle.shop_json.specs.Replying.{reply_body, reply_status}
use Rattle.shop_core.specs.Publishing.{CatchesUp, OnlyPublishes}
use Rattle.shop_core.specs.Requests.{answered, cart_answer, listing, reading, with_bare}
use Rattle.shop_core.specs.Shops.{ShopView, IsShop, state_of}
use Rattle.shop_core.specs.Steps.{accepted, refused}
use Rattle.shop_server.specs.Answering.{Form, asks, turned_away, form_of, Gives, IsOf, Way, ServesBy, worked_out, short, failed, shown, written, reply, reply_text, write_at, after, allowed, Counts, IsUntouched}

-- ---- writes

pub write_done : (old new : ShopView) (command : Command) (moment : ℤ) (last : Bool) (out : List ℕ) (done : Done) → Commits old command moment (Ok done) new
    → out ≡ reply_text (replies.Done done) None last → ServesBy worked_out old (asks (requests.Write command)) moment last out new
write_done old new command moment last out done k e =
    let now : write_at (state_of old) command moment ≡ accepted new.rows done.value = k.answer.0 in
    let front : done.front ≡ old.number + 1 = k.answer.2 ∙ k.answer.1 in
    record {
      may = tt;
      text = e ∙ ap (λ n. reply_text (replies.Done (record { front = n; value = done.value })) None last) front
          ∙ ap (λ x. reply_text (written (old.number + 1) x) None last) (sym now);
      left = ap (λ n. record { rows = new.rows; number = n }) k.answer.1 ∙ ap (after_step (state_of old)) (sym now);
      counts = k.cause;
      untouched = tt;
      told = k.told;
    }

pub write_refused : (old new : ShopView) (command : Command) (moment : ℤ) (last : Bool) (out : List ℕ) (rule : Refused) → Commits old command moment (Err (faults.Refused rule)) new
    → out ≡ reply_text (replies.Refused rule) None last → ServesBy worked_out old (asks (requests.Write command)) moment last out new
write_refused old new command moment last out rule k e =
    let now : write_at (state_of old) command moment ≡ refused rule = k.answer.0 in
    record {
      may = tt;
      text = e ∙ ap (λ x. reply_text (written (old.number + 1) x) None last) (sym now);
      left = k.answer.1 ∙ ap (after_step (state_of old)) (sym now);
      counts = k.cause;
      untouched = tt;
      told = k.told;
    }

pub write_failed : (old new : ShopView) (command : Command) (moment : ℤ) (last : Bool) (out : List ℕ) → Commits old command moment (Err faults.StoreFailed) new
    → out ≡ reply_text replies.StoreFailed None last → ServesBy failed old (asks (requests.Write command)) moment last out new
write_failed old new command moment last out k e = record { may = k.answer.0; text = e; left = k.answer.1; counts = k.cause; untouched = tt; told = k.told }

-- a commit for which memory ran out, or that was refused, leaves all but what is published
pub commit_left : (old new : ShopView) (command : Command) (moment : ℤ) (fault : CommitFault) → Commits old command moment (Err fault) new → state_of new ≡ state_of old → new.faults ≡ old.faults → OnlyPublishes old new
commit_left old new command moment fault k state faults = record {
  rows = ap (λ (s : State). s.rows) state;
  number = ap (λ (s : State). s.number) state;
  content = k.content;
  faults = faults;
}

-- ---- what is published

pub same_state : (old new : ShopView) → OnlyPublishes old new → state_of new ≡ state_of old
same_state old new only = λ i. record { rows = only.rows i; number = only.number i }

pub none_published : (old new : ShopView) → new ≡ old → OnlyPublishes old new
none_published old new same = record {
  rows = ap (λ (v : ShopView). v.rows) same;
  number = ap (λ (v : ShopView). v.number) same;
  content = ap (λ (v : ShopView). v.content) same;
  faults = ap (λ (v : ShopView). v.faults) same;
}

pub published_twice : (old mid new : ShopView) → OnlyPublishes old mid → OnlyPublishes mid new → OnlyPublishes old new
published_twice old mid new first then_ = record {
  rows = then_.rows ∙ first.rows;
  number = then_.number ∙ first.number;
  content = then_.content ∙ first.content;
  faults = then_.faults ∙ first.faults;
}

-- a shop that catches up, or doesn't for want of memory, changes nothing else
pub only_published : {X E : Type 0} (old new : ShopView) (r : Result X E) → OnOk r (CatchesUp old new) → OnErr r (new ≡ old) → OnlyPublishes old new
only_published old new (Ok x) caught same = caught.only
only_published old new (Err e) caught same = none_published old new same

still_untouched : (way : Way) (old mid new : ShopView) → IsUntouched way old mid → OnlyPublishes mid new → IsUntouched way old new
still_untouched worked_out old mid new u only = tt
still_untouched short old mid new u only = published_twice old mid new u only
still_untouched failed old mid new u only = tt

-- what was answered stays answered where no more than the published copy changes
pub served_published : (way : Way) (old mid new : ShopView) (form : Form) (moment : ℤ) (last : Bool) (out : List ℕ) → ServesBy way old form moment last out mid → OnlyPublishes mid new → ServesBy way old form moment last out new
served_published way old mid new form moment last out w only = record {
  may = w.may;
  text = w.text;
  left = same_state mid new only ∙ w.left;
  counts = subst (λ (n : ℕ). Counts old.faults n way) (sym only.faults) w.counts;
  untouched = still_untouched way old mid new w.untouched only;
  told = ap is_some only.content ∙ w.told;
}

-- a request for which memory ran out
pub short_of : (old new : ShopView) (form : Form) (moment : ℤ) (last : Bool) → OnlyPublishes old new → ServesBy short old form moment last (no_memory_text last) new
short_of old new form moment last only = record {
  may = tt;
  text = refl;
  left = same_state old new only;
  counts = only.faults;
  untouched = only;
  told = ap is_some only.content;
}

-- ---- reads

pub row_shown : (old : ShopView) (read : RowRead) (moment : ℤ) (last : Bool) (out : List ℕ) → out ≡ reply_text (shown (answered replies.Row (reading old.rows read))) None last
    → ServesBy worked_out old (asks (requests.Row read)) moment last out old
row_shown old read moment last out e = record { may = tt; text = e; left = refl; counts = refl; untouched = tt; told = refl }

pub rows_listed : (old : ShopView) (entity : List ℕ) (id second : ℕ) (moment : ℤ) (last : Bool) (out : List ℕ)
    → out ≡ reply_text (shown (answered replies.RowList (with_bare (listing old.rows entity id second)))) None last → ServesBy worked_out old (asks (requests.RowList entity id second)) moment last out old
rows_listed old entity id second moment last out e = record { may = tt; text = e; left = refl; counts = refl; untouched = tt; told = refl }

-- a reply that is worked out by the rows, which changes nothing but what is published
pub reply_shown : (old new : ShopView) (form : Form) (moment : ℤ) (last : Bool) (out : List ℕ) → OnlyPublishes old new → after (state_of old) form moment ≡ state_of old
    → out ≡ reply_text (reply (state_of old) old.copy.front form moment) (allowed form) last → ServesBy worked_out old form moment last out new
reply_shown old new form moment last out only stays e = record { may = tt; text = e; left = same_state old new only ∙ sym stays; counts = only.faults; untouched = tt; told = ap is_some only.content }

pub cart_shown : (old new : ShopView) (cart : ℕ) (moment : ℤ) (last : Bool) (out : List ℕ) → OnlyPublishes old new
    → out ≡ reply_text (shown (cart_answer old.rows old.number cart moment)) None last → ServesBy worked_out old (asks (requests.Cart cart)) moment last out new
cart_shown old new cart moment last out only e = reply_shown old new (asks (requests.Cart cart)) moment last out only refl e

pub question_shown : (old new : ShopView) (query : Query) (least : ℕ) (moment : ℤ) (last : Bool) (out : List ℕ) → OnlyPublishes old new
    → out ≡ reply_text (indexed_answer old.rows old.number query least) None last → ServesBy worked_out old (asks (requests.Indexed query least)) moment last out new
question_shown old new query least moment last out only e = reply_shown old new (asks (requests.Indexed query least)) moment last out only refl e

pub fronts_shown : (old : ShopView) (moment : ℤ) (last : Bool) (out : List ℕ)
    → out ≡ reply_text (replies.Front old.number old.copy.front) None last → ServesBy worked_out old (asks requests.Front) moment last out old
fronts_shown old moment last out e = record { may = tt; text = e; left = refl; counts = refl; untouched = tt; told = refl }

-- what is answered of a question, as the bytes of its reply

told_status : (front : ℕ) (told : Told) → reply_status (said_reply front (Ok told)) ≡ 200
told_status front (tree standing) = refl
told_status front (members ids) = refl
told_status front (price found) = refl
told_status front (page shown) = refl

pub told_text : (rows : List Row) (front : ℕ) (query : Query) (told : Told) (body : List ℕ) (last : Bool) → direct rows query ≡ Ok told → body ≡ reply_body (said_reply front (Ok told))
    → response_text 200 body None last ≡ reply_text (direct_reply rows front query) None last
told_text rows front query told body last is e =
    ap (λ (b : List ℕ). response_text 200 b None last) e
    ∙ (ap (λ (n : ℕ). response_text n (reply_body (said_reply front (Ok told))) None last) (sym (told_status front told))
    ∙ ap (λ (meant : Result Told Broken). reply_text (said_reply front meant) None last) (sym is))

pub refused_text : (rows : List Row) (front : ℕ) (query : Query) (broken : Broken) (reply : Reply) (last : Bool) → direct rows query ≡ Err broken → reply ≡ said_reply front (Err broken)
    → reply_text reply None last ≡ reply_text (direct_reply rows front query) None last
refused_text rows front query broken reply last is e = ap (λ (r : Reply). reply_text r None last) (e ∙ ap (λ (meant : Result Told Broken). said_reply front meant) (sym is))

-- ---- requests

pub line_said : (old : ShopView) (fault : LineFault) (allow : Option Method2) (moment : ℤ) (last : Bool) (out : List ℕ) → out ≡ reply_text (replies.Line fault) allow last
    → ServesBy worked_out old (turned_away fault allow) moment last out old
line_said old fault allow moment last out e = record { may = tt; text = e; left = refl; counts = refl; untouched = tt; told = refl }

-- a form that was answered, as the answer to a request of it
pub request_served : (way : Way) (old new : ShopView) (ask : Asked) (form : Form) (moment : ℤ) (out : List ℕ) → IsOf ask.request form → old.copy.front ≤ old.number → ServesBy way old form moment ask.last out new → Gives old ask moment out new
request_served way old new ask form moment out is front w =
    (record { form = form; last = ask.last; moment = moment; published = old.copy.front; way = way }, refl, record { form = is; last = refl; may = (w.may, front); text = w.text; left = w.left; counts = w.counts; untouched = w.untouched; told = w.told })

-- memory ran out for a request
pub request_short : (old new : ShopView) (ask : Asked) (moment : ℤ) → old.copy.front ≤ old.number → OnlyPublishes old new → Gives old ask moment (no_memory_text ask.last) new
request_short old new ask moment front only = request_served short old new ask (form_of ask.request) moment (no_memory_text ask.last) refl front (short_of old new (form_of ask.request) moment ask.last only)

-- no more is published than is accepted
pub front_within : (shop : ShopView) → IsShop shop → shop.copy.front ≤ shop.number
front_within shop is = omega (arith, is.counts)

-- ---- answers by cases

pub ok_map : {X E : Type 0} {P Q : X → Type 0} (r : Result X E) → ((x : X) → P x → Q x) → IfOk r P → IfOk r Q
ok_map (Ok x) f p = f x p
ok_map (Err e) f p = tt

pub done_to : {E : Type 0} {P Q : Type 0} (r : Result (Unit {0}) E) → (P → Q) → OnOk r P → OnOk r Q
done_to (Ok x) f p = f p
done_to (Err e) f p = tt

pub err_to : {X E : Type 0} {P Q : Type 0} (r : Result X E) → (P → Q) → OnErr r P → OnErr r Q
err_to (Ok x) f p = tt
err_to (Err e) f p = f p

pub err_of : {X E : Type 0} {Q : Type 0} (r : Result X E) → Q → OnErr r Q
err_of (Ok x) q = tt
err_of (Err e) q = q
