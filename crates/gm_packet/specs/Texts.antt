-- The arguments of a packet, without where they lie in memory.
use Rattle.std.specs.Prelude.{ℕ, List, take, map}
use Rattle.gm_packet.specs.declared.texts.Texts.{Texts}

abbrev pub texts_of : Texts → List (List ℕ)
texts_of texts = map (λ text. text.now) (take texts.count texts.all)
