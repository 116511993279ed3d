use Rattle.std.proofs.Common.{◌≡◌, ◌<◌, ◌^◌, ◌*◌, ◌+◌, ◌-◌, true, take}
use Rattle.std.specs.List.{fold, list_all}
use Rattle.shop_requests.specs.Days.{is_digit}
use Rattle.shop_requests.proofs.day.read_digits.Given as goal

abbrev pub invariant-loop-byte : goal.invariant-loop-byte
invariant-loop-byte l = record {
  digits : list_all is_digit (take l.byte-index l.text) ≡ true;
  value : l.number ≡ fold (λ n c. n * 10 + (c - 48)) 0 (take l.byte-index l.text);
  small : l.number < 10 ^ l.byte-index;
}
