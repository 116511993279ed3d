use Rattle.std.proofs.Common.{arith, ◌≡◌, ◌<◌, length, drop, take, length-append, length-drop}
use Rattle.std.proofs.lemmas.List.{drop_all}
use Rattle.std.proofs.lemmas.Grind.{common_steps}
use Rattle.shop_outside.proofs.Pieces.{piece_taken}
use Rattle.shop_outside.proofs.mem_line.MemSourceSource.read.Goals as goal

pub returns-clause-bytes : goal.returns-clause-bytes
returns-clause-bytes c =
    let same : c.copy_from_slice.new.self ≡ take c.min-count.result (drop c.args.self.now.at c.args.self.now.bytes.items) = grind (arith, common_steps) in
    let len : length c.copy_from_slice.new.self ≡ c.min-count.result = grind (arith, common_steps) in (
      piece_taken c.args.self.now.bytes.items c.copy_from_slice.new.self _ c.args.self.now.at c.min-count.result len same,
      λ z some.
          let room : 0 < length c.args.into.now = omega (arith, some, length-append c.copy_from_slice.new.self (drop c.min-count.result c.args.into.now), length-drop c.min-count.result c.args.into.now, len) in
          drop_all _ c.args.self.now.bytes.items (omega (arith, c.args.self.now.within, c.args.self.now.some, c.len.ensures, c.min.ensures, c.min-count.ensures)),
    )
