-- What is answered where no rows of a cart are lent.
use Rattle.cart_collect.specs.declared.fault.CollectFault.{CollectFault}
use Rattle.cart_collect.specs.declared.fault.CollectFault.TheVariants as C
use Rattle.cart_loop.specs.declared.fault.CartRefused.{CartRefused}
use Rattle.cart_loop.specs.declared.fault.CartRefused.TheVariants as F

abbrev pub refused_by : CollectFault → CartRefused
refused_by C.NoSuchCart = F.NoSuchCart
refused_by C.NoMemory = F.NoMemory
