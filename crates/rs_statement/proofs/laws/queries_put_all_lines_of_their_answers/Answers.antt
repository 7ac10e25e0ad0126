use Rattle.rs_statement.proofs.SamePuts.{all-fetched_lines, all-query}
use Rattle.rs_statement.proofs.laws.queries_put_all_lines_of_their_answers.Goals as goal

pub returns : goal.returns
returns c =
    let give = c.plans_give_the_answer.ensures.answer in record {
      queries = λ answer. all-query give answer;
      fetches = λ answer sampling state after sizes query bound name asked wanted written is.
          all-fetched_lines give answer sampling state sizes query bound name asked wanted written is after;
    }
