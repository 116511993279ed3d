use Rattle.std.proofs.Common.{inr}
use Rattle.shop_server.proofs.Runs.{connected_of}
use Rattle.shop_server.proofs.run.run.Goals as goal

pub returns-in-Ok-open_shop-clause-ran : goal.returns-in-Ok-open_shop-clause-ran
returns-in-Ok-open_shop-clause-ran g c =
    let s = c.serve_over-keeper.ensures.session in
    inr (record {
      shop = c.in-Ok-open_shop.shop;
      opened = c.in-Ok-open_shop.ensures.opens;
      is_shop = c.in-Ok-open_shop.ensures.shop;
      ended = c.serve_over-keeper.result.1;
      status = c.status_of.ensures;
      connected = connected_of c.in-Ok-open_shop.shop s.0 _ _ c.serve_over-keeper.result.1 s.1 s.2 s.3 s.4;
    })
