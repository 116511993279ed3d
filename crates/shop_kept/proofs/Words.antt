-- Numbers of 4, 8 and 16 bytes, the most significant byte first: each stands for its bytes, and they for it.
use Rattle.std.proofs.Common.{◌≡◌, ℕ, ◌+◌, ◌*◌, ◌/◌, ◌%◌, ◌^◌, ◌<◌, List, [], ◌∷◌, ◌++◌, length, take, drop, refl, sym, ap, ◌∙◌, arith, lit<}
use Rattle.std.specs.Int.{w32, w64, w128, to_be_bytes, from_be_bytes}
use native.Mathlib.Nat as nat
use Rattle.std.proofs.lemmas.List.{length-take, length-drop, take-append-drop, get_or-take, get_or-drop}
use Rattle.std.proofs.lemmas.Nat.{be_bytes_4, be_bytes_8, from_be_bytes-to_be_bytes_4, from_be_bytes-to_be_bytes_8}
use Rattle.shop_kept.proofs.Readable.{IsBytes, IsBytes-take, IsBytes-drop, IsWide}

pub wide32 : IsWide w32 (2 ^ 32)
wide32 = record {
  len = λ n. refl;
  back = λ bytes len fits. be_bytes_4 bytes _ len fits refl;
  again = λ n lt. from_be_bytes-to_be_bytes_4 n lt;
  below = λ bytes fits. omega (arith, fits 0, fits 1, fits 2, fits 3);
}

pub wide64 : IsWide w64 (2 ^ 64)
wide64 = record {
  len = λ n. refl;
  back = λ bytes len fits. be_bytes_8 bytes _ len fits refl;
  again = λ n lt. from_be_bytes-to_be_bytes_8 n lt;
  below = λ bytes fits. omega (arith, fits 0, fits 1, fits 2, fits 3, fits 4, fits 5, fits 6, fits 7);
}

high_byte : (n k : ℕ) → n / (2 ^ 64 * k) % 256 ≡ n / 2 ^ 64 / k % 256
high_byte n k = ap (λ (x : ℕ). x % 256) (sym (nat.div-div-eq-div-mul n (2 ^ 64) k))

-- sixteen bytes are eight of the upper half and eight of the lower
to_halves : (n : ℕ) → to_be_bytes w128 n ≡ to_be_bytes w64 (n / 2 ^ 64) ++ to_be_bytes w64 (n % 2 ^ 64)
to_halves n =
    let a7 = high_byte n (256 ^ 7) in
    let a6 = high_byte n (256 ^ 6) in
    let a5 = high_byte n (256 ^ 5) in
    let a4 = high_byte n (256 ^ 4) in
    let a3 = high_byte n (256 ^ 3) in
    let a2 = high_byte n (256 ^ 2) in
    let a1 = high_byte n 256 in
    let b7 : n / 256 ^ 7 % 256 ≡ n % 2 ^ 64 / 256 ^ 7 % 256 = omega arith in
    let b6 : n / 256 ^ 6 % 256 ≡ n % 2 ^ 64 / 256 ^ 6 % 256 = omega arith in
    let b5 : n / 256 ^ 5 % 256 ≡ n % 2 ^ 64 / 256 ^ 5 % 256 = omega arith in
    let b4 : n / 256 ^ 4 % 256 ≡ n % 2 ^ 64 / 256 ^ 4 % 256 = omega arith in
    let b3 : n / 256 ^ 3 % 256 ≡ n % 2 ^ 64 / 256 ^ 3 % 256 = omega arith in
    let b2 : n / 256 ^ 2 % 256 ≡ n % 2 ^ 64 / 256 ^ 2 % 256 = omega arith in
    let b1 : n / 256 % 256 ≡ n % 2 ^ 64 / 256 % 256 = omega arith in
    let b0 : n % 256 ≡ n % 2 ^ 64 % 256 = omega arith in
    λ i. a7 i ∷ a6 i ∷ a5 i ∷ a4 i ∷ a3 i ∷ a2 i ∷ a1 i ∷ n / 2 ^ 64 % 256 ∷ b7 i ∷ b6 i ∷ b5 i ∷ b4 i ∷ b3 i ∷ b2 i ∷ b1 i ∷ b0 i ∷ []

from_halves : (bytes : List ℕ) → from_be_bytes w128 bytes ≡ from_be_bytes w64 (take 8 bytes) * 2 ^ 64 + from_be_bytes w64 (drop 8 bytes)
from_halves bytes = omega (arith, get_or-take 8 bytes 0 0 (lit< tt), get_or-take 8 bytes 1 0 (lit< tt), get_or-take 8 bytes 2 0 (lit< tt), get_or-take 8 bytes 3 0 (lit< tt), get_or-take 8 bytes 4 0 (lit< tt), get_or-take 8 bytes 5 0 (lit< tt), get_or-take 8 bytes 6 0 (lit< tt), get_or-take 8 bytes 7 0 (lit< tt), get_or-drop 8 bytes 0 0, get_or-drop 8 bytes 1 0, get_or-drop 8 bytes 2 0, get_or-drop 8 bytes 3 0, get_or-drop 8 bytes 4 0, get_or-drop 8 bytes 5 0, get_or-drop 8 bytes 6 0, get_or-drop 8 bytes 7 0)

whole_again_of : (n h l : ℕ) → h ≡ n / 2 ^ 64 → l ≡ n % 2 ^ 64 → h * 2 ^ 64 + l ≡ n
whole_again_of n h l e f = omega arith

pub wide128 : IsWide w128 (2 ^ 128)
wide128 = record { len = λ n. refl; back = back; again = again; below = below }
  where
    again : (n : ℕ) → n < 2 ^ 128 → from_be_bytes w128 (to_be_bytes w128 n) ≡ n
    again n lt = ap (from_be_bytes w128) (to_halves n) ∙ from_halves (to_be_bytes w64 (n / 2 ^ 64) ++ to_be_bytes w64 (n % 2 ^ 64)) ∙ whole_again_of n (from_be_bytes w64 (to_be_bytes w64 (n / 2 ^ 64))) (from_be_bytes w64 (to_be_bytes w64 (n % 2 ^ 64))) (from_be_bytes-to_be_bytes_8 (n / 2 ^ 64) (omega arith)) (from_be_bytes-to_be_bytes_8 (n % 2 ^ 64) (omega arith))

    back : (bytes : List ℕ) → length bytes ≡ 16 → IsBytes bytes → to_be_bytes w128 (from_be_bytes w128 bytes) ≡ bytes
    back bytes len fits =
        let high = take 8 bytes in
        let low = drop 8 bytes in
        let high-len : length high ≡ 8 = omega (arith, length-take 8 bytes) in
        let low-len : length low ≡ 8 = omega (arith, length-drop 8 bytes) in
        let parts : bytes ≡ high ++ low = sym (take-append-drop 8 bytes) in
        let h = from_be_bytes w64 high in
        let l = from_be_bytes w64 low in
        let n : from_be_bytes w128 bytes ≡ h * 2 ^ 64 + l = from_halves bytes in
        let l-lt : l < 2 ^ 64 = wide64.below low (IsBytes-drop 8 bytes fits) in
        let top : (h * 2 ^ 64 + l) / 2 ^ 64 ≡ h = omega arith in
        let bottom : (h * 2 ^ 64 + l) % 2 ^ 64 ≡ l = omega arith in
        ap (to_be_bytes w128) n ∙ to_halves (h * 2 ^ 64 + l) ∙ ap (λ (x : ℕ). to_be_bytes w64 x ++ to_be_bytes w64 ((h * 2 ^ 64 + l) % 2 ^ 64)) top ∙ ap (λ (x : ℕ). to_be_bytes w64 h ++ to_be_bytes w64 x) bottom
        ∙ ap (λ (t : List ℕ). t ++ to_be_bytes w64 l) (wide64.back high high-len (IsBytes-take 8 bytes fits)) ∙ ap (λ (t : List ℕ). high ++ t) (wide64.back low low-len (IsBytes-drop 8 bytes fits)) ∙ sym parts

    below : (bytes : List ℕ) → IsBytes bytes → from_be_bytes w128 bytes < 2 ^ 128
    below bytes fits = omega (arith, fits 0, fits 1, fits 2, fits 3, fits 4, fits 5, fits 6, fits 7, fits 8, fits 9, fits 10, fits 11, fits 12, fits 13, fits 14, fits 15)
