use Rattle.words.proofs.Ranking.{words_ordered}
use Rattle.words.proofs.word.Word.compare.Goals as goal

pub returns : goal.returns
returns g c = record { value = c.compare_rows.ensures; ordered = words_ordered (g.O.MonomialOrder.model c.args.order.now) }
