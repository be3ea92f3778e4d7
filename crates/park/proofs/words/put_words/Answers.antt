-- `words::put_words` meets its contract: nine numbers of one width. Assumes nothing.
use Rattle.form.specs.Form.{word_fields}
use Rattle.park.proofs.words.put_words.Goals as goal

pub returns : goal.returns
unfolding word_fields
returns c = c.put_numbers.ensures
