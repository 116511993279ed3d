-- A request off the front of bytes, as RFC 9112 (sections 2 to 6) has it, with these departures:
-- a head has at most 16,384 bytes and 64 fields, and a body at most 1,048,576 bytes;
-- a body with a transfer coding is refused (sections 6.1 and 7);
-- a second `Content-Length` field, or a list in one, is refused even where the values are the same (section 6.3 lets a recipient merge them);
-- HTTP/1.0 keeps no connection open (section 9.3 knows `keep-alive`);
-- a field `Host` isn't asked for (section 3.2), and a target may be any text without spaces and control bytes.
use Rattle.std.specs.Prelude.{ℕ, suc, ◌+◌, Bool, ◌||◌, ◌&&◌, ◌==◌, nat_lt, nat_le, List, [], ◌∷◌, length, take, drop, map, filter, codes, nat_eq, Option, Some, None, option_map, Result, Ok, Err, if◌then◌else◌}
use Rattle.std.specs.List.{starts_with, list_all, list_any, slice_split}
use Rattle.std.specs.Char.{is_ascii_digit}
use Rattle.std.specs.Str.{str_eq_ignore_ascii_case}
use Rattle.std.specs.Str.Parse.{digits_value}
use Rattle.httparse.specs.Ascii.{line_feed, crlf_bytes, comma}
use Rattle.httparse.specs.Grammar.{RequestHead, trim_ows}
use Rattle.httparse.specs.Spans.{name_and_value}
use Rattle.shop_http.specs.declared.next.HeadFault.{HeadFault}
use Rattle.shop_http.specs.declared.next.HeadFault.TheVariants.{BadHead, Chunked, TooLarge}
use Rattle.shop_http.specs.Requests.{Field, missing, once, twice, Request, Front, whole, part, bad}
use Rattle.shop_http.specs.HeadReader.{head_of}

-- ---- where the head ends (RFC 9112, sections 2.1 and 2.2)

-- how many bytes the empty line at the front takes, CR LF or LF alone; 0 where there is none
unfoldable pub empty_line : List ℕ → ℕ
empty_line bytes =
    if starts_with nat_eq bytes crlf_bytes then 2
    else if starts_with nat_eq bytes (line_feed ∷ []) then 1
    else 0

-- How many bytes there are up to and with the first empty line behind a line end. So one empty line before the start line is
-- passed over (section 2.2); of two the second ends the region, which then is no head.
unfoldable pub head_end : List ℕ → Option ℕ
head_end [] = None
head_end (b ∷ bytes) =
    if b == line_feed && nat_lt 0 (empty_line bytes) then Some (suc (empty_line bytes)) else option_map suc (head_end bytes)

-- ---- the fields (section 5)

-- the names and the values, in order
abbrev pub fields_of : RequestHead → List (List ℕ × List ℕ)
fields_of h = map name_and_value h.fields

-- the values of the fields of a name, in any case
unfoldable pub values : List ℕ → List (List ℕ × List ℕ) → List (List ℕ)
values name fields = map (λ f. f.1) (filter (λ f. str_eq_ignore_ascii_case f.0 name) fields)

abbrev pub given : List (List ℕ) → Field
given [] = missing
given (v ∷ []) = once v
given (v ∷ w ∷ vs) = twice

unfoldable pub named : List ℕ → List (List ℕ × List ℕ) → Field
named name fields = given (values name fields)

-- ---- the body's size (section 6)

-- one digit or more
abbrev pub is_number : List ℕ → Bool
is_number text = nat_lt 0 (length text) && list_all is_ascii_digit text

-- what `Content-Length` says
abbrev pub length_of : Field → Result ℕ HeadFault
length_of missing = Ok 0
length_of (once text) = if is_number text then Ok (digits_value 10 text) else Err BadHead
length_of twice = Err BadHead

-- and whether such a body is taken, beside what `Transfer-Encoding` says
abbrev pub size_of : Result ℕ HeadFault → Field → Result ℕ HeadFault
size_of (Err f) coding = Err f
size_of (Ok n) missing = if nat_le n 1048576 then Ok n else Err TooLarge
size_of (Ok n) (once text) = Err Chunked
size_of (Ok n) twice = Err Chunked

unfoldable pub body_size : List (List ℕ × List ℕ) → Result ℕ HeadFault
body_size fields = size_of (length_of (named (codes "content-length") fields)) (named (codes "transfer-encoding") fields)

-- ---- whether the connection is closed (section 9.3, and RFC 9110, section 7.6.1)

abbrev pub is_close : List ℕ → Bool
is_close element = str_eq_ignore_ascii_case (trim_ows element) (codes "close")

-- an element of the list is `close`
unfoldable pub has_close : List ℕ → Bool
has_close value = list_any is_close (slice_split (λ b. b == comma) value)

-- a field is `Connection`, and says so
abbrev pub is_closing : List ℕ × List ℕ → Bool
is_closing f = str_eq_ignore_ascii_case f.0 (codes "connection") && has_close f.1

unfoldable pub asks_to_close : List (List ℕ × List ℕ) → Bool
asks_to_close fields = list_any is_closing fields

-- ---- the request

-- the request of a head and its body
unfoldable pub request_with : RequestHead → List ℕ → Request
request_with h body = record {
  method = h.method;
  target = h.target;
  closing = h.minor == 0 || asks_to_close (fields_of h);
  language = named (codes "x-language-id") (fields_of h);
  version = named (codes "x-version-id") (fields_of h);
  inheritance = named (codes "x-inheritance") (fields_of h);
  min_front = named (codes "x-min-front") (fields_of h);
  body = body;
}

-- a head and the size of its body, or why the region is refused
abbrev pub sized : RequestHead → Result ℕ HeadFault → Result (RequestHead × ℕ) HeadFault
sized h (Err f) = Err f
sized h (Ok n) = Ok (h, n)

abbrev pub judged : Option RequestHead → Result (RequestHead × ℕ) HeadFault
judged None = Err BadHead
judged (Some h) = sized h (body_size (fields_of h))

-- the request of a head that takes so many bytes, with a body of so many of the bytes behind it
abbrev pub with_body : Result (RequestHead × ℕ) HeadFault → ℕ → List ℕ → Front HeadFault
with_body (Err f) used behind = bad f
with_body (Ok p) used behind =
    if nat_le p.1 (length behind) then whole (request_with p.0 (take p.1 behind)) (used + p.1) else part

abbrev pub cut_at : Option ℕ → List ℕ → Front HeadFault
cut_at None bytes = if nat_lt (length bytes) 16384 then part else bad BadHead
cut_at (Some n) bytes = if nat_le n 16384 then with_body (judged (head_of (take n bytes))) n (drop n bytes) else bad BadHead

-- the request at the front of the bytes
unfoldable pub head_cut : List ℕ → Front HeadFault
head_cut bytes = cut_at (head_end bytes) bytes
