use Rattle.shop_server.specs.Lawful.{cut_is_served}
use Rattle.shop_server.proofs.run.serve_over.Goals as goal

pub serve-ended-requires : goal.serve-ended-requires
serve-ended-requires g c = cut_is_served
