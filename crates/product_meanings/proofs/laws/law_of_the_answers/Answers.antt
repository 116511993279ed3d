use Rattle.product_meanings.proofs.Answering.{answers_of_all}
use Rattle.product_meanings.proofs.laws.law_of_the_answers.Goals as goal

pub returns : goal.returns
returns c = answers_of_all
