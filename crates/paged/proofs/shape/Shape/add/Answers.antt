use Rattle.paged.proofs.Shaping.{counted_more, least_more, greatest_more}
use Rattle.paged.proofs.shape.Shape.add.Goals as goal

pub returns : goal.returns
returns c = λ sizes tells. record {
  pages = counted_more c.args.self.now.pages c.saturating_add-self.result c.args.size sizes tells.pages c.saturating_add-self.ensures;
  least = least_more c.args.self.now.pages c.args.self.now.least c.least_with-self.result c.args.size sizes tells.pages tells.least c.least_with-self.ensures.first c.least_with-self.ensures.others;
  most = greatest_more c.args.self.now.most c.max-self.result c.args.size sizes tells.most c.max-self.ensures;
}
