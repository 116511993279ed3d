use Rattle.std.proofs.Common.{arith}
use Rattle.cart_process.proofs.Carts.{count-most, goods-most, weight-most}
use Rattle.cart_process.proofs.goods.measures_of.Goals as goal

pub loop-rest-init : goal.loop-rest-init
loop-rest-init c = record {
  fit = c.requires.fit;
  count = omega arith;
  goods = omega arith;
  weight = omega arith;
  count_most = count-most c.args.prices.now c.requires.fit c.requires.few;
  goods_most = goods-most c.args.prices.now c.requires.fit c.requires.few;
  weight_most = weight-most c.args.prices.now c.requires.fit c.requires.few;
}
