-- The definition, computed on carts that are worked by hand. Ids are decimal.
use Rattle.std.proofs.Common.{◌≡◌, pos, [], ◌∷◌, Some, None, refl}
use Rattle.std.specs.Prelude.{codes}
use Rattle.std.specs.Fmt.{digits}
use Rattle.json.specs.Print.{escape_byte}
use Rattle.serde_json.specs.Written.{compact_text}
use Rattle.shop_requests.specs.Ids.{hex_digits, id_text}
use Rattle.cart_price.specs.declared.priced.Settled.{Settled}
use Rattle.cart_json.specs.CartReplies.{settled_data}

-- two shirts at 11900 with 19 %, and a parcel at 595
abbrev shirts : Settled
shirts =
    record {
      cart = record {
        count = pos 2;
        delivery = Some (record { cost = pos 595; method = 48; rate = 1900 });
        delivery_discounts = [];
        discounts = [];
        goods = pos 23800;
        lines = record { id = 65; product = 33; quantity = 2; rate = 1900; total = pos 23800; unit = pos 11900 } ∷ [];
        raw = pos 24395;
        tax = pos 3895;
        taxes = record { amount = pos 24395; rate = 1900; tax = pos 3895 } ∷ [];
        total = pos 24395;
        weight = pos 500;
        blocks = [];
      };
      labels = codes "Shirt" ∷ codes "Parcel" ∷ [];
      rules = [];
      rounds = 2;
    }

shirts_printed : compact_text (settled_data 10 shirts) ≡ codes "{\"blocks\":[],\"cart\":{\"count\":2,\"delivery\":{\"cost\":595,\"method\":\"00000000000000000000000000000030\",\"rate\":1900},\"delivery_discounts\":[],\"discounts\":[],\"goods\":23800,\"lines\":[{\"id\":\"00000000000000000000000000000041\",\"product\":\"00000000000000000000000000000021\",\"quantity\":2,\"rate\":1900,\"total\":23800,\"unit\":11900}],\"raw\":24395,\"tax\":3895,\"taxes\":[{\"amount\":24395,\"rate\":1900,\"tax\":3895}],\"total\":24395,\"weight\":500},\"front\":10,\"labels\":[\"Shirt\",\"Parcel\"],\"rounds\":2,\"rules\":[]}"
unfolding escape_byte digits id_text hex_digits
shirts_printed = refl

-- one line with a price and one without, a discount and two rules, in a cart without tax whose delivery is blocked
abbrev blocked : Settled
blocked =
    record {
      cart = record {
        count = pos 1;
        delivery = None;
        delivery_discounts = [];
        discounts = record { amount = pos 100; discount = 82; promotion = 81 } ∷ [];
        goods = pos 1000;
        lines =
            record { id = 65; product = 32; quantity = 1; rate = 0; total = pos 1000; unit = pos 1000 }
            ∷ record { id = 66; product = 34; quantity = 3; rate = 0; total = pos 0; unit = pos 0 }
            ∷ [];
        raw = pos 900;
        tax = pos 0;
        taxes = record { amount = pos 900; rate = 0; tax = pos 0 } ∷ [];
        total = pos 900;
        weight = pos 0;
        blocks = record { cause = codes "no_price"; line = 66 } ∷ record { cause = codes "no_shipping_price"; line = 64 } ∷ [];
      };
      labels = codes "7\" disc" ∷ codes "-" ∷ codes "Ten off" ∷ [];
      rules = 97 ∷ 96 ∷ [];
      rounds = 3;
    }

blocked_printed : compact_text (settled_data 0 blocked) ≡ codes "{\"blocks\":[{\"cause\":\"no_price\",\"line\":\"00000000000000000000000000000042\"},{\"cause\":\"no_shipping_price\",\"line\":\"00000000000000000000000000000040\"}],\"cart\":{\"count\":1,\"delivery\":null,\"delivery_discounts\":[],\"discounts\":[{\"amount\":100,\"discount\":\"00000000000000000000000000000052\",\"promotion\":\"00000000000000000000000000000051\"}],\"goods\":1000,\"lines\":[{\"id\":\"00000000000000000000000000000041\",\"product\":\"00000000000000000000000000000020\",\"quantity\":1,\"rate\":0,\"total\":1000,\"unit\":1000},{\"id\":\"00000000000000000000000000000042\",\"product\":\"00000000000000000000000000000022\",\"quantity\":3,\"rate\":0,\"total\":0,\"unit\":0}],\"raw\":900,\"tax\":0,\"taxes\":[{\"amount\":900,\"rate\":0,\"tax\":0}],\"total\":900,\"weight\":0},\"front\":0,\"labels\":[\"7\\\" disc\",\"-\",\"Ten off\"],\"rounds\":3,\"rules\":[\"00000000000000000000000000000061\",\"00000000000000000000000000000060\"]}"
unfolding escape_byte digits id_text hex_digits
blocked_printed = refl
