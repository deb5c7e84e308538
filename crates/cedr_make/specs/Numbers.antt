-- The numbers of an event.
use Rattle.std.specs.Prelude.{ℕ, ◌≡◌}
use Rattle.cedr_make.specs.declared.generator.EventNumbers.{EventNumbers}
use Rattle.cedr_make.specs.Generator.{begin_of, made_key, made_length, value_of}

-- they are those of the event of this number of a source
pub record AreNumbers (source i : ℕ) (numbers : EventNumbers) : Type 0 where
  pub begins : numbers.begin ≡ begin_of source i
  pub lasts : numbers.length ≡ made_length source i
  pub key_is : numbers.key ≡ made_key source i
  pub value_is : numbers.value ≡ value_of source i
