-- The bytes of a response (RFC 9112, section 2.1): a status line, header fields, an empty line and the body.
use Rattle.std.specs.Prelude.{ℕ, ◌++◌, ◌==◌, Bool, true, List, [], ◌∷◌, length, codes, decimal, Option, Some, None, unwrap_or, if◌then◌else◌, IsTrue}
use Rattle.std.specs.List.{list_any}
use Rattle.http.specs.StatusCode.{reason_phrase}
use Rattle.shop_http.specs.declared.respond.Method2.{Method2}
use Rattle.shop_http.specs.declared.respond.Method2.TheVariants.{Get, Post}

-- the statuses that are ever answered
abbrev pub named_statuses : List ℕ
named_statuses = 200 ∷ 400 ∷ 404 ∷ 405 ∷ 409 ∷ 413 ∷ 501 ∷ 503 ∷ 507 ∷ []

abbrev pub IsNamed : ℕ → Type 0
IsNamed status = IsTrue (list_any (λ s. status == s) named_statuses)

-- the end of a line
abbrev pub crlf : List ℕ
crlf = 13 ∷ 10 ∷ []

-- the words that stand for a status
abbrev pub phrase_of : ℕ → List ℕ
phrase_of status = unwrap_or (reason_phrase status) []

abbrev pub method_text : Method2 → List ℕ
method_text Get = codes "GET"
method_text Post = codes "POST"

-- the line that names the method that is allowed, where one is given
abbrev pub allow_line : Option Method2 → List ℕ
allow_line None = []
allow_line (Some m) = codes "allow: " ++ method_text m ++ crlf

-- the line that says that the connection is closed after the response
abbrev pub close_line : Bool → List ℕ
close_line closing = if closing then codes "connection: close" ++ crlf else []

unfoldable pub start_line : ℕ → List ℕ
start_line status = codes "HTTP/1.1 " ++ decimal status ++ codes " " ++ phrase_of status ++ crlf

-- the header fields on a body of JSON of so many bytes
unfoldable pub content_lines : ℕ → List ℕ
content_lines size = codes "content-type: application/json" ++ crlf ++ codes "content-length: " ++ decimal size ++ crlf

-- the head of a response with a body of so many bytes
abbrev pub head_text : ℕ → ℕ → Option Method2 → Bool → List ℕ
head_text status size allow closing =
    start_line status ++ content_lines size ++ allow_line allow ++ close_line closing ++ crlf

unfoldable pub response_text : ℕ → List ℕ → Option Method2 → Bool → List ℕ
response_text status body allow closing = head_text status (length body) allow closing ++ body

-- the response where memory ran out
abbrev pub no_memory_text : Bool → List ℕ
no_memory_text closing = response_text 507 (codes "{\"error\":\"no_memory\"}") None closing

-- the response to a request whose answer isn't there yet; the connection is closed
abbrev pub not_built_text : List ℕ
not_built_text = response_text 501 (codes "{\"error\":\"not_built\"}") None true

-- the response to what is no head of a request; the connection is closed
abbrev pub bad_head_text : List ℕ
bad_head_text = response_text 400 (codes "{\"error\":\"bad_head\"}") None true

-- the response to a request whose body is sent in chunks; the connection is closed
abbrev pub chunked_text : List ℕ
chunked_text = response_text 501 (codes "{\"error\":\"chunked\"}") None true

-- the response to a request whose body is longer than one may be; the connection is closed
abbrev pub body_too_large_text : List ℕ
body_too_large_text = response_text 413 (codes "{\"error\":\"body_too_large\"}") None true
