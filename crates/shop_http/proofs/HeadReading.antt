-- The reader of heads reads what the grammar says, piece by piece.
use Rattle.std.proofs.Common.{◌≡◌, ℕ, zero, suc, ◌<◌, ◌≤◌, Bool, true, false, ◌&&◌, ◌==◌, nat_lt, nat_le, List, [], ◌∷◌, ◌++◌, length, if◌then◌else◌, refl, sym, ap, ◌∙◌, subst, arith, append_assoc, length-append, Option, Some, None}
use Rattle.std.specs.Prelude.{IsUtf8}
use Rattle.std.specs.List.{flat_map}
use Rattle.std.specs.Str.{is_utf8}
use Rattle.std.proofs.lemmas.Str.{IsUtf8-from_is_utf8, is_utf8-from_IsUtf8}
use Rattle.std.proofs.lemmas.Bool.{both_ways, and_parts, and_from, eqb-true, eqb-false, eq-eqb, ltb-true, lt-ltb, le-leb, leb-true}
use Rattle.std.proofs.lemmas.List.Elements.{All-cons, All-nil, All-head, All-tail}
use Rattle.httparse.specs.Grammar.{is_token_byte, is_uri_byte, is_value_byte, AllPass, LineEnd, crlf, lf, print_end, print_blank, print_version, print_field, print_section, Field, IsField, RequestHead, ReadsRequest}
use Rattle.httparse.specs.Pieces.{Piece, Begins, Then, Stops, is_newline, Newline, Blank, Word, Method, Target, Version, Text, FieldLine, Section, RequestStart}
use Rattle.httparse.proofs.RunLemmas.{run_unique, run_unstopped}
use Rattle.httparse.proofs.PieceLemmas.{IsDeterministic, Then_deterministic, print_end_unique, newline_not_stopped, Blank_deterministic, Word_deterministic, space_ends_token, colon_ends_token, Method_deterministic, Target_deterministic, Version_deterministic, Stops_value, print_field-append, FieldLine_parts, Name_deterministic, FieldLine_deterministic, Section_deterministic, RequestStart_deterministic}
use Rattle.httparse.proofs.GrammarLemmas.{request_pieces, request_from_pieces, request_tree}
use Rattle.std.proofs.lemmas.List.{nil_from_length}
use Rattle.shop_http.specs.HeadReader.{Taken, Reader, beside, and_next, in_row, behind, one_of, read_end, read_version, Stop, one_before, find_stop, word_of, read_word, if_text, read_target, value_of, read_value, field_of, read_field, onto_fields, section_of, section_within, read_section, at_word, onto_ends, blank_of, blank_within, read_blank, HeadParts, read_start, read_head, head_from, whole_head, head_of}
use Rattle.shop_http.specs.Laws.{IsHeadOf, HeadsAreRead}

-- what was read is a piece, and nothing is read only where there is none
abbrev Answers : {A : Type 0} → Piece A → List ℕ → Taken A → Type 0
Answers G text None = ¬ (Begins G text)
Answers G text (Some x) = G x.0 text x.1

record IsReader {A : Type 0} (G : Piece A) (read : Reader A) : Type 0 where
  pub reads : (text : List ℕ) → Answers G text (read text)

-- ---- two pieces in a row

row_next : {A B : Type 0} (G : Piece A) (H : Piece B) → IsDeterministic G → (text : List ℕ) (x : A × List ℕ) (t : Taken B)
    → G x.0 text x.1 → Answers H x.1 t → Answers (Then G H) text (beside x.0 t)
row_next G H det text x None g lacks = λ h.
    let same = det.unique h.0.0 x.0 text h.2.0 x.1 h.2.1 g in
    lacks (h.0.1, h.1, subst (λ (m : List ℕ). H h.0.1 m h.1) same.1 h.2.2)
row_next G H det text x (Some y) g k = (x.1, g, k)

row_first : {A B : Type 0} (G : Piece A) (H : Piece B) (s : Reader B) → IsDeterministic G → IsReader H s → (text : List ℕ) (t : Taken A)
    → Answers G text t → Answers (Then G H) text (and_next t s)
row_first G H s det reads text None lacks = λ h. lacks (h.0.0, h.2.0, h.2.1)
row_first G H s det reads text (Some x) g = row_next G H det text x (s x.1) g (reads.reads x.1)

row_reads : {A B : Type 0} (G : Piece A) (H : Piece B) (r : Reader A) (s : Reader B) → IsDeterministic G → IsReader G r → IsReader H s
    → IsReader (Then G H) (in_row r s)
unfolding in_row
row_reads G H r s det first second = record { reads = λ text. row_first G H s det second text (r text) (first.reads text) }

-- ---- bytes that are known

abbrev Follows : List ℕ → List ℕ → Option (List ℕ) → Type 0
Follows front text None = (rest : List ℕ) → text ≡ front ++ rest → ⊥
Follows front text (Some rest) = text ≡ front ++ rest

behind_more : (f b : ℕ) (front text : List ℕ) (o : Option (List ℕ)) → Follows front text o → (t : Bool) → (b == f) ≡ t
    → Follows (f ∷ front) (b ∷ text) (if t then o else None)
behind_more f b front text None lacks true e = λ rest k. lacks rest (cc)
behind_more f b front text (Some rest) k true e = let same : b ≡ f = eqb-true b f e in cc
behind_more f b front text o x false e = λ rest k. eqb-false b f e (cc)

behind_follows : (front text : List ℕ) → Follows front text (behind front text)
unfolding behind
behind_follows [] text = refl
behind_follows (f ∷ front) [] = λ rest k. cc
behind_follows (f ∷ front) (b ∷ text) = behind_more f b front text (behind front text) (behind_follows front text) (b == f) refl

end_none : (text : List ℕ) → Follows (print_end crlf) text None → Follows (print_end lf) text None → (e : LineEnd) (rest : List ℕ)
    → text ≡ print_end e ++ rest → ⊥
end_none text one two crlf rest k = one rest k
end_none text one two lf rest k = two rest k

end_of : (text : List ℕ) (one two : Option (List ℕ)) → Follows (print_end crlf) text one → Follows (print_end lf) text two
    → Answers Newline text (one_of crlf one lf two)
end_of text (Some rest) two x y = x
end_of text None (Some rest) x y = y
end_of text None None x y = λ h. end_none text x y h.0 h.1 h.2

end_reads : IsReader Newline read_end
unfolding read_end
end_reads = record {
  reads = λ text. end_of text (behind (print_end crlf) text) (behind (print_end lf) text) (behind_follows (print_end crlf) text) (behind_follows (print_end lf) text);
}

version_none : (text : List ℕ) → Follows (print_version 0) text None → Follows (print_version 1) text None → (n : ℕ) (rest : List ℕ)
    → n ≤ 1 → text ≡ print_version n ++ rest → ⊥
version_none text one two zero rest small k = one rest k
version_none text one two (suc zero) rest small k = two rest k
version_none text one two (suc (suc n)) rest small k = absurd (omega arith)

version_of : (text : List ℕ) (one two : Option (List ℕ)) → Follows (print_version 0) text one → Follows (print_version 1) text two
    → Answers Version text (one_of 0 one 1 two)
version_of text (Some rest) two x y = (omega arith, x)
version_of text None (Some rest) x y = (omega arith, y)
version_of text None None x y = λ h. version_none text x y h.0 h.1 h.2.0 h.2.1

version_reads : IsReader Version read_version
unfolding read_version
version_reads = record {
  reads = λ text. version_of text (behind (print_version 0) text) (behind (print_version 1) text) (behind_follows (print_version 0) text) (behind_follows (print_version 1) text);
}

-- ---- runs

abbrev StopsAt : (ℕ → Bool) → List ℕ → Option Stop → Type 0
StopsAt test text None = AllPass test text
StopsAt test text (Some s) = AllPass test s.before × (test s.byte ≡ false) × (text ≡ s.before ++ s.byte ∷ s.rest)

stop_more : (test : ℕ → Bool) (b : ℕ) (text : List ℕ) (o : Option Stop) → StopsAt test text o → (t : Bool) → test b ≡ t
    → StopsAt test (b ∷ text) (if t then one_before b o else Some (record { before = []; byte = b; rest = text }))
stop_more test b text None all true e = All-cons (λ v. test v ≡ true) b text e all
stop_more test b text (Some s) x true e = (All-cons (λ v. test v ≡ true) b s.before e x.0, x.1, ap (λ (t : List ℕ). b ∷ t) x.2)
stop_more test b text o x false e = (All-nil (λ v. test v ≡ true), e, refl)

stop_found : (test : ℕ → Bool) (text : List ℕ) → StopsAt test text (find_stop test text)
unfolding find_stop
stop_found test [] = All-nil (λ v. test v ≡ true)
stop_found test (b ∷ text) = stop_more test b text (find_stop test text) (stop_found test text) (test b) refl

word_test : (test : ℕ → Bool) (last : ℕ) → test last ≡ false → (text : List ℕ) (s : Stop) → StopsAt test text (Some s)
    → (t : Bool) → (nat_lt 0 (length s.before) && s.byte == last) ≡ t
    → Answers (Word test last) text (if t then Some (s.before, s.rest) else None)
word_test test last fails text s x true e =
    let both = and_parts (nat_lt 0 (length s.before)) (s.byte == last) e in (
      ltb-true 0 (length s.before) both.0,
      x.0,
      subst (λ (b : ℕ). text ≡ s.before ++ b ∷ s.rest) (eqb-true s.byte last both.1) x.2,
    )
word_test test last fails text s x false e = λ h.
    let same = run_unique test h.0 s.before (last ∷ h.1) (s.byte ∷ s.rest) h.2.1 x.0 fails x.1 (sym h.2.2 ∙ x.2) in
    let bytes : s.byte ≡ last = cc in
    let some : 0 < length s.before = omega (arith, ap length same.0, h.2.0) in
    both_ways (nat_lt 0 (length s.before) && s.byte == last) e
    (and_from (nat_lt 0 (length s.before)) (s.byte == last) (lt-ltb 0 (length s.before) some) (eq-eqb s.byte last bytes))

word_found : (test : ℕ → Bool) (last : ℕ) → test last ≡ false → (text : List ℕ) (o : Option Stop) → StopsAt test text o
    → Answers (Word test last) text (word_of last o)
word_found test last fails text None all = λ h. run_unstopped test h.0 (last ∷ h.1) (subst (AllPass test) h.2.2 all) fails
word_found test last fails text (Some s) x = word_test test last fails text s x (nat_lt 0 (length s.before) && s.byte == last) refl

word_reads : (test : ℕ → Bool) (last : ℕ) → test last ≡ false → IsReader (Word test last) (read_word test last)
unfolding read_word
word_reads test last fails = record { reads = λ text. word_found test last fails text (find_stop test text) (stop_found test text) }

target_test : (text : List ℕ) (x : List ℕ × List ℕ) → Word is_uri_byte 32 x.0 text x.1 → (t : Bool) → is_utf8 x.0 ≡ t
    → Answers Target text (if t then Some x else None)
target_test text x w true e = (w, IsUtf8-from_is_utf8 x.0 e)
target_test text x w false e = λ h.
    let same = (Word_deterministic is_uri_byte 32 refl).unique h.0 x.0 text h.1 x.1 h.2.0 w in
    both_ways (is_utf8 x.0) e (is_utf8-from_IsUtf8 x.0 (subst IsUtf8 same.0 h.2.1))

target_found : (text : List ℕ) (t : Taken (List ℕ)) → Answers (Word is_uri_byte 32) text t → Answers Target text (if_text t)
target_found text None lacks = λ h. lacks (h.0, h.1, h.2.0)
target_found text (Some x) w = target_test text x w (is_utf8 x.0) refl

target_reads : IsReader Target read_target
unfolding read_target
target_reads = record { reads = λ text. target_found text (read_word is_uri_byte 32 text) ((word_reads is_uri_byte 32 refl).reads text) }

value_end : (text : List ℕ) (s : Stop) → StopsAt is_value_byte text (Some s) → (t : Taken LineEnd) → Answers Newline (s.byte ∷ s.rest) t
    → Answers Text text (beside s.before t)
value_end text s x None lacks = λ h.
    let same = run_unique is_value_byte h.0.0 s.before (print_end h.0.1 ++ h.1) (s.byte ∷ s.rest) h.2.0 x.0 (Stops_value h.0.1 h.1) x.1 (sym h.2.1 ∙ x.2) in
    lacks (h.0.1, h.1, sym same.1)
value_end text s x (Some y) k = (x.0, x.2 ∙ ap (λ (t : List ℕ). s.before ++ t) k)

value_found : (text : List ℕ) (o : Option Stop) → StopsAt is_value_byte text o → Answers Text text (value_of o)
value_found text None all = λ h.
    run_unstopped is_value_byte h.0.0 (print_end h.0.1 ++ h.1) (subst (AllPass is_value_byte) h.2.1 all) (Stops_value h.0.1 h.1)
value_found text (Some s) x = value_end text s x (read_end (s.byte ∷ s.rest)) (end_reads.reads (s.byte ∷ s.rest))

value_reads : IsReader Text read_value
unfolding read_value
value_reads = record { reads = λ text. value_found text (find_stop is_value_byte text) (stop_found is_value_byte text) }

-- ---- lines

abbrev FieldParts : Type 0
FieldParts = List ℕ × (List ℕ × LineEnd)

field_found : (text : List ℕ) (t : Taken FieldParts) → Answers (Then (Word is_token_byte 58) Text) text t → Answers FieldLine text (field_of t)
field_found text None lacks = λ h. lacks ((h.0.name, (h.0.raw, h.0.end)), h.1, FieldLine_parts h.0 text h.1 h.2)
field_found text (Some x) p =
    let f : Field = record { name = x.0.0; raw = x.0.1.0; end = x.0.1.1 } in (
      record { name = (p.1.0, p.1.1); raw = p.2.0 },
      p.1.2 ∙ ap (λ (t : List ℕ). x.0.0 ++ 58 ∷ t) p.2.1 ∙ sym (print_field-append f x.1),
    )

field_reads : IsReader FieldLine read_field
unfolding read_field
field_reads = record {
  reads = λ text. field_found text (in_row (read_word is_token_byte 58) read_value text)
      ((row_reads (Word is_token_byte 58) Text (read_word is_token_byte 58) read_value Name_deterministic (word_reads is_token_byte 58 colon_ends_token) value_reads).reads text);
}

-- a section is an empty line, or a field line and a section
section_cons : (f : Field) (fs : List Field) (last : LineEnd) (text middle rest : List ℕ)
    → FieldLine f text middle → Section (fs, last) middle rest → Section (f ∷ fs, last) text rest
section_cons f fs last text middle rest x y = (
  All-cons IsField f fs x.0 y.0,
  x.1 ∙ ap (λ (t : List ℕ). print_field f ++ t) y.1 ∙ sym (append_assoc (print_field f) (print_section fs last) rest)
      ∙ ap (λ (t : List ℕ). t ++ rest) (sym (append_assoc (print_field f) (flat_map print_field fs) (print_end last))),
)

section_line : (f : Field) (fs : List Field) (last : LineEnd) (text rest : List ℕ) → Section (f ∷ fs, last) text rest
    → (middle : List ℕ) × FieldLine f text middle × Section (fs, last) middle rest
section_line f fs last text rest x = (
  print_section fs last ++ rest,
  (
    All-head IsField f fs x.0,
    x.1 ∙ ap (λ (t : List ℕ). t ++ rest) (append_assoc (print_field f) (flat_map print_field fs) (print_end last))
        ∙ append_assoc (print_field f) (print_section fs last) rest,
  ),
  (All-tail IsField f fs x.0, refl),
)

section_ended : (text : List ℕ) (e : LineEnd × List ℕ) → Newline e.0 text e.1 → Section ([], e.0) text e.1
section_ended text e k = (All-nil IsField, k)

section_more : (text : List ℕ) (f : Field × List ℕ) → FieldLine f.0 text f.1 → (¬ (Begins Newline text)) → (t : Taken (List Field × LineEnd))
    → Answers Section f.1 t → Answers Section text (onto_fields f.0 t)
section_more text f x none None lacks = λ h. no_section h.0.0 h.0.1 h.1 h.2
  where
    no_section : (fs : List Field) (last : LineEnd) (rest : List ℕ) → Section (fs, last) text rest → ⊥
    no_section [] last rest s = none (last, rest, s.1)
    no_section (g ∷ gs) last rest s =
        let parts = section_line g gs last text rest s in
        let same = FieldLine_deterministic.unique g f.0 text parts.0 f.1 parts.1 x in
        lacks ((gs, last), rest, subst (λ (m : List ℕ). Section (gs, last) m rest) same.1 parts.2)
section_more text f x none (Some y) s = section_cons f.0 y.0.0 y.0.1 text f.1 y.1 x s

section_none : (text : List ℕ) → (¬ (Begins Newline text)) → (¬ (Begins FieldLine text)) → (fs : List Field) (last : LineEnd) (rest : List ℕ)
    → Section (fs, last) text rest → ⊥
section_none text no_end no_field [] last rest s = no_end (last, rest, s.1)
section_none text no_end no_field (g ∷ gs) last rest s =
    let parts = section_line g gs last text rest s in no_field (g, parts.0, parts.1)

section_found : (text : List ℕ) (e : Taken LineEnd) (f : Taken Field) (more : Reader (List Field × LineEnd)) → Answers Newline text e → Answers FieldLine text f
    → ((rest : List ℕ) → length rest < length text → Answers Section rest (more rest)) → Answers Section text (section_of e f more)
section_found text (Some e) f more x y step = section_ended text e x
section_found text None None more x y step = λ h. section_none text x y h.0.0 h.0.1 h.1 h.2
section_found text None (Some f) more x y step = section_more text f y x (more f.1) (step f.1 (field_shorter f.0 text f.1 y))
  where
    field_shorter : (g : Field) (all rest : List ℕ) → FieldLine g all rest → length rest < length all
    field_shorter g all rest z = omega (arith, ap length (z.1 ∙ print_field-append g rest), length-append g.name (58 ∷ (g.raw ++ (print_end g.end ++ rest))), length-append g.raw (print_end g.end ++ rest), length-append (print_end g.end) rest)

no_empty_section : (s : List Field × LineEnd) (rest : List ℕ) → Section s [] rest → ⊥
no_empty_section s rest x = nothing s.0 s.1 x.1
  where
    nothing : (fs : List Field) (last : LineEnd) → [] ≡ print_section fs last ++ rest → ⊥
    nothing fs last k = ends last (omega (arith, ap length k, length-append (print_section fs last) rest, length-append (flat_map print_field fs) (print_end last)))
      where
        ends : (e : LineEnd) → length (print_end e) ≤ 0 → ⊥
        ends crlf small = omega arith
        ends lf small = omega arith

section_within_reads : (n : ℕ) (text : List ℕ) → length text ≤ n → Answers Section text (section_within n text)
unfolding section_within
section_within_reads zero [] fits = λ h. no_empty_section h.0 h.1 h.2
section_within_reads zero (b ∷ text) fits = absurd (omega arith)
section_within_reads (suc n) text fits =
    section_found text (read_end text) (read_field text) (section_within n) (end_reads.reads text) (field_reads.reads text)
    (λ rest less. section_within_reads n rest (omega arith))

section_reads : IsReader Section read_section
unfolding read_section
section_reads = record { reads = λ text. section_within_reads (length text) text (omega arith) }

-- ---- the empty lines before a word

blank_cons : (e : LineEnd) (ends : List LineEnd) (text middle rest : List ℕ) → Newline e text middle → Blank ends middle rest → Blank (e ∷ ends) text rest
blank_cons e ends text middle rest x y =
    (x ∙ ap (λ (t : List ℕ). print_end e ++ t) y.0 ∙ sym (append_assoc (print_end e) (print_blank ends) rest), y.1)

blank_more : (text : List ℕ) (e : LineEnd × List ℕ) → Newline e.0 text e.1 → (t : Taken (List LineEnd)) → Answers Blank e.1 t
    → Answers Blank text (onto_ends e.0 t)
blank_more text e k None lacks = λ h. none h.0 h.1 h.2.0 h.2.1
  where
    none : (ends : List LineEnd) (rest : List ℕ) → text ≡ print_blank ends ++ rest → Stops is_newline rest → ⊥
    none [] rest x s = newline_not_stopped e.0 e.1 rest (sym k ∙ x) s
    none (f ∷ ends) rest x s =
        let same = print_end_unique e.0 f e.1 (print_blank ends ++ rest) (sym k ∙ x ∙ append_assoc (print_end f) (print_blank ends) rest) in
        lacks (ends, rest, (same.1, s))
blank_more text e k (Some y) b = blank_cons e.0 y.0 text e.1 y.1 k b

word_blank : (b : ℕ) (text : List ℕ) → (¬ (Begins Newline (b ∷ text))) → (t : Bool) → is_newline b ≡ t
    → Answers Blank (b ∷ text) (if t then None else Some ([], b ∷ text))
word_blank b text none true e = λ h. nothing h.0 h.1 h.2.0 h.2.1
  where
    nothing : (ends : List LineEnd) (rest : List ℕ) → b ∷ text ≡ print_blank ends ++ rest → Stops is_newline rest → ⊥
    nothing [] rest x s = both_ways (is_newline b) (subst (Stops is_newline) (sym x) s) e
    nothing (f ∷ ends) rest x s = none (f, print_blank ends ++ rest, x ∙ append_assoc (print_end f) (print_blank ends) rest)
word_blank b text none false e = (refl, e)

no_empty_blank : (ends : List LineEnd) (rest : List ℕ) → [] ≡ print_blank ends ++ rest → Stops is_newline rest → ⊥
no_empty_blank ends [] x s = s
no_empty_blank ends (b ∷ rest) x s = absurd (omega (arith, ap length x, length-append (print_blank ends) (b ∷ rest)))

blank_start : (text : List ℕ) → (¬ (Begins Newline text)) → Answers Blank text (at_word text)
blank_start [] none = λ h. no_empty_blank h.0 h.1 h.2.0 h.2.1
blank_start (b ∷ text) none = word_blank b text none (is_newline b) refl

end_shorter : (e : LineEnd) (text rest : List ℕ) → text ≡ print_end e ++ rest → length rest < length text
end_shorter crlf text rest k = omega (arith, ap length k)
end_shorter lf text rest k = omega (arith, ap length k)

blank_found : (text : List ℕ) (e : Taken LineEnd) (more : Reader (List LineEnd)) → Answers Newline text e
    → ((rest : List ℕ) → length rest < length text → Answers Blank rest (more rest)) → Answers Blank text (blank_of e text more)
blank_found text (Some e) more x step = blank_more text e x (more e.1) (step e.1 (end_shorter e.0 text e.1 x))
blank_found text None more x step = blank_start text x

blank_within_reads : (n : ℕ) (text : List ℕ) → length text ≤ n → Answers Blank text (blank_within n text)
unfolding blank_within
blank_within_reads zero [] fits = λ h. no_empty_blank h.0 h.1 h.2.0 h.2.1
blank_within_reads zero (b ∷ text) fits = absurd (omega arith)
blank_within_reads (suc n) text fits =
    blank_found text (read_end text) (blank_within n) (end_reads.reads text) (λ rest less. blank_within_reads n rest (omega arith))

blank_reads : IsReader Blank read_blank
unfolding read_blank
blank_reads = record { reads = λ text. blank_within_reads (length text) text (omega arith) }

-- ---- a head

start_reads : IsReader RequestStart read_start
start_reads =
    row_reads Blank (Then Method (Then Target (Then Version Newline))) read_blank _ Blank_deterministic blank_reads
    (row_reads Method (Then Target (Then Version Newline)) (read_word is_token_byte 32) _ Method_deterministic (word_reads is_token_byte 32 space_ends_token)
    (row_reads Target (Then Version Newline) read_target _ Target_deterministic target_reads
    (row_reads Version Newline read_version read_end Version_deterministic version_reads end_reads)))

head_reads : IsReader (Then RequestStart Section) read_head
unfolding read_head
head_reads = row_reads RequestStart Section read_start read_section RequestStart_deterministic start_reads section_reads

Head_deterministic : IsDeterministic (Then RequestStart Section)
Head_deterministic = Then_deterministic RequestStart_deterministic Section_deterministic

read_is : (region : List ℕ) (h : RequestHead) (x : HeadParts × List ℕ) → Then RequestStart Section x.0 region x.1 → (t : Bool)
    → (length x.1 == 0 && nat_le (length x.0.1.0) 64) ≡ t → (if t then Some (head_from x.0) else None) ≡ Some h → IsHeadOf region h
read_is region h x p true e k =
    let both = and_parts (length x.1 == 0) (nat_le (length x.0.1.0) 64) e in
    let is : head_from x.0 ≡ h = cc in
    let nothing : x.1 ≡ [] = nil_from_length x.1 (eqb-true (length x.1) 0 both.0) in
    let room : length (head_from x.0).fields ≤ 64 = leb-true (length x.0.1.0) 64 both.1 in
    let reads : ReadsRequest region (head_from x.0) [] = request_from_pieces region x.0 [] (subst (λ (r : List ℕ). Then RequestStart Section x.0 region r) nothing p) in
    subst (IsHeadOf region) is (record { reads = reads; room = room })
read_is region h x p false e k = absurd (cc)

read_head_is : (region : List ℕ) (h : RequestHead) (t : Taken HeadParts) → Answers (Then RequestStart Section) region t → whole_head t ≡ Some h → IsHeadOf region h
read_head_is region h None lacks k = absurd (cc)
read_head_is region h (Some x) p k = read_is region h x p (length x.1 == 0 && nat_le (length x.0.1.0) 64) refl k

head_is_read : (region : List ℕ) (h : RequestHead) → IsHeadOf region h → (t : Taken HeadParts) → Answers (Then RequestStart Section) region t → whole_head t ≡ Some h
head_is_read region h is None lacks = absurd (lacks (request_tree h, [], request_pieces region h [] is.reads))
head_is_read region h is (Some x) p =
    let same = Head_deterministic.unique (request_tree h) x.0 region [] x.1 (request_pieces region h [] is.reads) p in
    let fits : (x : HeadParts × List ℕ) → request_tree h ≡ x.0 → [] ≡ x.1 → whole_head (Some x) ≡ Some h = λ x e k. by_parts x e k in
    fits x same.0 same.1
  where
    by_parts : (x : HeadParts × List ℕ) → request_tree h ≡ x.0 → [] ≡ x.1 → whole_head (Some x) ≡ Some h
    by_parts x e k =
        subst (λ (r : List ℕ). whole_head (Some (x.0, r)) ≡ Some h) k
        (subst (λ (t : HeadParts). whole_head (Some (t, [])) ≡ Some h) e (rw (le-leb (length h.fields) 64 is.room)))

pub heads_are_read : HeadsAreRead
unfolding head_of
heads_are_read region h =
    (read_head_is region h (read_head region) (head_reads.reads region), λ is. head_is_read region h is (read_head region) (head_reads.reads region))

pub no_head : (region : List ℕ) → ((h : RequestHead) → ¬ (IsHeadOf region h)) → head_of region ≡ None
no_head region none = by_answer (head_of region) refl
  where
    by_answer : (o : Option RequestHead) → head_of region ≡ o → head_of region ≡ None
    by_answer None e = e
    by_answer (Some h) e = absurd (none h ((heads_are_read region h).0 e))
