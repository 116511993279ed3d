-- The head of a request that bytes begin with, as a function of them. It reads what httparse's grammar says as a relation, and
-- `HeadsAreRead` (Laws.antt) says so whole: this file need not be believed.
use Rattle.std.specs.Prelude.{ℕ, zero, suc, Bool, ◌&&◌, ◌==◌, nat_lt, nat_le, List, [], ◌∷◌, length, Option, Some, None, if◌then◌else◌}
use Rattle.std.specs.Str.{is_utf8}
use Rattle.httparse.specs.Ascii.{space, colon}
use Rattle.httparse.specs.Grammar.{is_token_byte, is_uri_byte, is_value_byte, LineEnd, crlf, lf, print_end, print_version, Field, RequestHead}
use Rattle.httparse.specs.Pieces.{is_newline}

-- what was read off the front of some bytes, and the bytes behind it
abbrev pub Taken : Type 0 → Type 0
Taken A = Option (A × List ℕ)

abbrev pub Reader : Type 0 → Type 0
Reader A = List ℕ → Taken A

-- ---- two pieces in a row

abbrev pub beside : {A B : Type 0} → A → Taken B → Taken (A × B)
beside a None = None
beside a (Some x) = Some ((a, x.0), x.1)

abbrev pub and_next : {A B : Type 0} → Taken A → Reader B → Taken (A × B)
and_next None read = None
and_next (Some x) read = beside x.0 (read x.1)

unfoldable pub in_row : {A B : Type 0} → Reader A → Reader B → Reader (A × B)
in_row first next text = and_next (first text) next

-- ---- bytes that are known

-- what follows this front, where the bytes begin with it
unfoldable pub behind : List ℕ → List ℕ → Option (List ℕ)
behind [] text = Some text
behind (f ∷ front) [] = None
behind (f ∷ front) (b ∷ text) = if b == f then behind front text else None

abbrev pub one_of : {A : Type 0} → A → Option (List ℕ) → A → Option (List ℕ) → Taken A
one_of a (Some rest) b other = Some (a, rest)
one_of a None b (Some rest) = Some (b, rest)
one_of a None b None = None

unfoldable pub read_end : Reader LineEnd
read_end text = one_of crlf (behind (print_end crlf) text) lf (behind (print_end lf) text)

unfoldable pub read_version : Reader ℕ
read_version text = one_of 0 (behind (print_version 0) text) 1 (behind (print_version 1) text)

-- ---- runs of bytes that pass a test

-- the first byte that fails it, and what stands before and behind
pub record Stop : Type 0 where
  pub before : List ℕ
  pub byte : ℕ
  pub rest : List ℕ

abbrev pub one_before : ℕ → Option Stop → Option Stop
one_before b None = None
one_before b (Some s) = Some (record { before = b ∷ s.before; byte = s.byte; rest = s.rest })

unfoldable pub find_stop : (ℕ → Bool) → List ℕ → Option Stop
find_stop test [] = None
find_stop test (b ∷ text) = if test b then one_before b (find_stop test text) else Some (record { before = []; byte = b; rest = text })

abbrev pub word_of : ℕ → Option Stop → Taken (List ℕ)
word_of last None = None
word_of last (Some s) = if nat_lt 0 (length s.before) && s.byte == last then Some (s.before, s.rest) else None

-- one byte or more that pass the test, and the byte behind them
unfoldable pub read_word : (ℕ → Bool) → ℕ → Reader (List ℕ)
read_word test last text = word_of last (find_stop test text)

abbrev pub if_text : Taken (List ℕ) → Taken (List ℕ)
if_text None = None
if_text (Some x) = if is_utf8 x.0 then Some x else None

unfoldable pub read_target : Reader (List ℕ)
read_target text = if_text (read_word is_uri_byte space text)

abbrev pub value_of : Option Stop → Taken (List ℕ × LineEnd)
value_of None = None
value_of (Some s) = beside s.before (read_end (s.byte ∷ s.rest))

-- a field's value, with the white space around it, and its line end
unfoldable pub read_value : Reader (List ℕ × LineEnd)
read_value text = value_of (find_stop is_value_byte text)

-- ---- lines

abbrev pub field_of : Taken (List ℕ × (List ℕ × LineEnd)) → Taken Field
field_of None = None
field_of (Some x) = Some (record { name = x.0.0; raw = x.0.1.0; end = x.0.1.1 }, x.1)

unfoldable pub read_field : Reader Field
read_field text = field_of (in_row (read_word is_token_byte colon) read_value text)

abbrev pub onto_fields : Field → Taken (List Field × LineEnd) → Taken (List Field × LineEnd)
onto_fields f None = None
onto_fields f (Some x) = Some ((f ∷ x.0.0, x.0.1), x.1)

abbrev pub section_of : Taken LineEnd → Taken Field → Reader (List Field × LineEnd) → Taken (List Field × LineEnd)
section_of (Some e) field more = Some (([], e.0), e.1)
section_of None None more = None
section_of None (Some f) more = onto_fields f.0 (more f.1)

-- the field lines and the empty line behind them, of at most n bytes
unfoldable pub section_within : ℕ → Reader (List Field × LineEnd)
section_within zero text = None
section_within (suc n) text = section_of (read_end text) (read_field text) (section_within n)

unfoldable pub read_section : Reader (List Field × LineEnd)
read_section text = section_within (length text) text

abbrev pub at_word : List ℕ → Taken (List LineEnd)
at_word [] = None
at_word (b ∷ text) = if is_newline b then None else Some ([], b ∷ text)

abbrev pub onto_ends : LineEnd → Taken (List LineEnd) → Taken (List LineEnd)
onto_ends e None = None
onto_ends e (Some x) = Some (e ∷ x.0, x.1)

abbrev pub blank_of : Taken LineEnd → List ℕ → Reader (List LineEnd) → Taken (List LineEnd)
blank_of (Some e) text more = onto_ends e.0 (more e.1)
blank_of None text more = at_word text

-- the empty lines before a word, of fewer than n bytes
unfoldable pub blank_within : ℕ → Reader (List LineEnd)
blank_within zero text = None
blank_within (suc n) text = blank_of (read_end text) text (blank_within n)

unfoldable pub read_blank : Reader (List LineEnd)
read_blank text = blank_within (length text) text

-- ---- a head

abbrev pub StartParts : Type 0
StartParts = List LineEnd × (List ℕ × (List ℕ × (ℕ × LineEnd)))

abbrev pub HeadParts : Type 0
HeadParts = StartParts × (List Field × LineEnd)

abbrev pub read_start : Reader StartParts
read_start = in_row read_blank (in_row (read_word is_token_byte space) (in_row read_target (in_row read_version read_end)))

unfoldable pub read_head : Reader HeadParts
read_head = in_row read_start read_section

abbrev pub head_from : HeadParts → RequestHead
head_from p = record {
  blank = p.0.0;
  method = p.0.1.0;
  target = p.0.1.1.0;
  minor = p.0.1.1.1.0;
  line_end = p.0.1.1.1.1;
  fields = p.1.0;
  last = p.1.1;
}

abbrev pub whole_head : Taken HeadParts → Option RequestHead
whole_head None = None
whole_head (Some x) = if length x.1 == 0 && nat_le (length x.0.1.0) 64 then Some (head_from x.0) else None

-- the head that the bytes are as a whole, with at most 64 fields
unfoldable pub head_of : List ℕ → Option RequestHead
head_of region = whole_head (read_head region)
