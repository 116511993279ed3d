use Rattle.std.proofs.Common.{◌≡◌, ℕ, ◌++◌, ◌∙◌, length, take, ap, arith, length-take, length-drop}
use Rattle.shop_server.proofs.Buffers.{read_piece, put_at}
use Rattle.shop_server.proofs.input.read_at.Goals as goal

pub returns-clause-read : goal.returns-clause-read
returns-clause-read g c =
    let same = c.deref_mut.ensures.value in
    let as_long = ap length same in
    let room : length c.read.new.into ≡ 65536 = omega (arith, c.read.auto.into, as_long, length-take {A = ℕ}, length-drop {A = ℕ}) in
    read_piece c.read.result _ _ c.args.bytes.now.items c.read.new.into _ c.args.at (omega arith) c.read.ensures.within c.read.ensures.bytes
    (λ n within. put_at _ c.read.new.into _ _ c.args.at n _ (omega arith) within (omega (arith, c.args.bytes.now.ok.0)) ∙ ap (λ l. take c.args.at l ++ take n c.read.new.into) same)
