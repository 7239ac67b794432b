-- Words of columns: the theorem.
-- Assumes nothing.
use Rattle.words.specs.Columns.{WordsOfColumns}
use Rattle.words.proofs.Columns.{word-broadcast, word-delivered, word-xor}
use Rattle.words.proofs.Folds.{word-mask}

pub words-of-columns : WordsOfColumns
words-of-columns N n h = record {
  xor_shares = word-xor n;
  mask = λ f. word-mask N n f h;
  broadcasts = λ ma mb sa sb z o. word-broadcast N n ma mb sa sb z o h;
  delivered = λ p shown f lt. word-delivered N n p shown f h lt;
}
