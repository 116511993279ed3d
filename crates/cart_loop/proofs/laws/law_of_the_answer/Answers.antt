use Rattle.cart_loop.proofs.Answers.{the_answer}
use Rattle.cart_loop.proofs.laws.law_of_the_answer.Goals as goal

pub returns : goal.returns
returns c = the_answer
