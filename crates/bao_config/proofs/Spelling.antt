-- From the parts of an answer to the answer.
use Rattle.std.proofs.Common.{◌≡◌, ◌≢◌, ℕ, List, [], ◌∷◌, Option, Some, Result, Ok, Err, refl, ap, ◌∙◌, inl, inr}
use Rattle.std.specs.Str.{IsUtf8, is_utf8}
use Rattle.std.proofs.lemmas.Bool.{cases_Bool}
use Rattle.std.proofs.lemmas.Str.{IsUtf8-from_is_utf8, is_utf8-from_IsUtf8}
use Rattle.toml.specs.Data.{Members}
use Rattle.toml.specs.Parse.{parse_document}
use Rattle.bao_config.specs.declared.error.ConfigError.{ConfigError}
use Rattle.bao_config.specs.declared.error.ConfigError.TheVariants.{BadToml, BadShape, BadValue, OutOfMemory}
use Rattle.bao_config.specs.Data.{ConfigData}
use Rattle.bao_config.specs.Faults.{first, IsFirst}
use Rattle.std.specs.Prelude.{IfOk, IfErr}
use Rattle.bao_config.specs.declared.config.Config.{Config}
use Rattle.bao_config.specs.Config.{config_data}
use Rattle.bao_config.specs.Fits.{ConfigFits}
use Rattle.bao_config.specs.Spelled.{config_of}
use Rattle.bao_config.specs.Answer.{Reads, document_faults, from_faults, from_document, spelled}

pub spelled-not_utf8 : (bytes : List ℕ) → (IsUtf8 bytes → ⊥) → spelled bytes ≡ Err BadToml
spelled-not_utf8 bytes not_text =
    elim (cases_Bool (is_utf8 bytes)) [
      | inl e ↦ absurd (not_text (IsUtf8-from_is_utf8 bytes e))
      | inr e ↦ rw e
    ]

pub spelled-utf8 : (bytes : List ℕ) (document : Option Members) → IsUtf8 bytes → parse_document bytes ≡ document → spelled bytes ≡ from_document document
spelled-utf8 bytes document text e = rw (is_utf8-from_IsUtf8 bytes text) (ap from_document e)

from_faults-first_is : (e : ConfigError) (faults : List ConfigError) (config : ConfigData) → first faults ≡ Some e → from_faults faults config ≡ Err e
from_faults-first_is e [] config h = absurd cc
from_faults-first_is e (fault ∷ faults) config h = cc

pub from_faults-first : (e : ConfigError) (faults : List ConfigError) (config : ConfigData) → IsFirst e faults → e ≢ OutOfMemory → from_faults faults config ≡ Err e
from_faults-first OutOfMemory faults config h other = absurd (other refl)
from_faults-first BadToml faults config h other = from_faults-first_is BadToml faults config h
from_faults-first (BadShape s) faults config h other = from_faults-first_is (BadShape s) faults config h
from_faults-first (BadValue s z) faults config h other = from_faults-first_is (BadValue s z) faults config h

-- what a reader of the document gives is what the bytes spell
pub spelled-read_ok : (bytes : List ℕ) (ms : Members) (r : Result Config ConfigError) → IsUtf8 bytes → parse_document bytes ≡ Some ms
    → Reads config_data ConfigFits r (document_faults ms) (config_of ms) → IfOk r (λ config. spelled bytes ≡ Ok (config_data config))
spelled-read_ok bytes ms (Ok config) text is read = spelled-utf8 bytes (Some ms) text is ∙ rw (read.0, read.1)
spelled-read_ok bytes ms (Err e) text is read = tt

pub spelled-read_err : (bytes : List ℕ) (ms : Members) (r : Result Config ConfigError) → IsUtf8 bytes → parse_document bytes ≡ Some ms
    → Reads config_data ConfigFits r (document_faults ms) (config_of ms) → IfErr r (λ e. e ≢ OutOfMemory → spelled bytes ≡ Err e)
spelled-read_err bytes ms (Ok config) text is read = tt
spelled-read_err bytes ms (Err e) text is read = λ other. spelled-utf8 bytes (Some ms) text is ∙ from_faults-first e (document_faults ms) (config_of ms) read other
