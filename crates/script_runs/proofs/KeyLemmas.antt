-- The key of a fault's word is the one key that has it.
use Rattle.std.proofs.Common.{◌≡◌, ◌<◌, ◌==◌, ℕ, true, false, arith, ◌∙◌, sym}
use Rattle.box_geo.specs.declared.fault.FaultKey.{FaultKey}
use Rattle.box_geo.specs.Fault.{FitsWord, key_word, no_fault}
use Rattle.box_geo.proofs.FaultLemmas.{same_key}
use Rattle.meaning.specs.Runs.{key_of}

fits : (word : ℕ) → FitsWord (key_of word)
fits word = (omega arith, omega arith, omega arith)

word_of : (word : ℕ) → key_word (key_of word) ≡ word
word_of word = omega arith

pub key_is : (word : ℕ) (key : FaultKey) → key_word key ≡ word → FitsWord key → key ≡ key_of word
key_is word key same fit = same_key key (key_of word) fit (fits word) (same ∙ sym (word_of word))

-- a word below that of no fault is one
pub is_fault : (word : ℕ) → word < no_fault → (word == no_fault) ≡ false
is_fault word below = grind arith

pub is_sound : (word : ℕ) → word ≡ no_fault → (word == no_fault) ≡ true
is_sound word is = grind arith
