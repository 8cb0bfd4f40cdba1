-- What is made of a file, and what is written of it.
use Rattle.std.proofs.Common.{◌≡◌, ℕ, ◌<◌, List, length, refl, ap, ◌∙◌, inl, inr}
use Rattle.std.specs.Prelude.{Option, None, Some, Result, Ok, Err, Vec, nat_lt, if◌then◌else◌, IsSomeAnd}
use Rattle.std.specs.declared.alloc.Global.{Global}
use Rattle.outside.specs.Shelf.{Files, IfHeld, IfTold, IsFetched, Blames}
use Rattle.outside.specs.declared.shelf.ShelfError.{ShelfError}
use Rattle.outside.specs.declared.shelf.ShelfError.TheVariants as shelf
use Rattle.std.proofs.lemmas.Bool.{lt-ltb}
use Rattle.outside.specs.Sink.{Takes, HasCause}
use Rattle.outside.specs.Use.{ShelfUse, SinkUse, IsFaultless, IsPut}
use Rattle.outside.proofs.Told.{every, follows}
use Rattle.outside.specs.declared.sink.SinkFailed.{SinkFailed}
use Rattle.a64_asm.specs.Source.{image_limit}
use Rattle.asm_run.specs.Words.{Command, Assemble, Show, Unknown, Names, command_of}
use Rattle.asm_run.specs.Call.{Call}
use Rattle.asm_run.specs.Ruling.{Ruling, Made, Refused, source_limit, rule_content, rule_command, rule_file}
use Rattle.asm_run.specs.Outcome.{HasMade, Outcome}
use Rattle.asm_run.specs.Status.{refusal_text}
use Rattle.asm_run.specs.Made.{IsMade, IsGiven, IsShown, status_of}
use Rattle.asm_run.specs.declared.status.AsmStatus.{AsmStatus}
use Rattle.asm_run.specs.declared.status.AsmStatus.TheVariants as status

-- no words
pub unknown : (shelf : ShelfUse) → IsFaultless shelf → IsMade Unknown shelf (Err status.Usage)
unknown shelf read =
    (refl, record { told = every shelf.held (λ files. rule_command Unknown files ≡ Refused status.Usage) (λ files. refl); read = read })

module _ (command : Command) (use_of : ShelfUse) (name : List ℕ)
    (known : (files : Files) → rule_command command files ≡ rule_file command (files name)) where
  -- a told content decides
  told_by : (content : List ℕ) (ruled : Ruling) → rule_content command content ≡ ruled
      → IfTold use_of.held name (λ found. found ≡ Some content) → IfHeld use_of.held (λ files. rule_command command files ≡ ruled)
  told_by content ruled gives told =
      follows use_of.held (λ files. files name ≡ Some content) (λ files. rule_command command files ≡ ruled)
      (λ files e. known files ∙ ap (rule_file command) e ∙ gives) told

  long_content : (limit : ℕ) → ((content : List ℕ) → limit < length content → rule_content command content ≡ Refused (status.TooLong limit))
      → (found : Option (List ℕ)) → IsSomeAnd found (λ bytes. limit < length bytes) → rule_file command found ≡ Refused (status.TooLong limit)
  long_content limit rule None long = absurd long
  long_content limit rule (Some content) long = rule content long

  -- a content within the limit
  made_of : (content : List ℕ) (result : Result (Vec ℕ Global) AsmStatus) → Names command name
      → IfTold use_of.held name (λ found. found ≡ Some content) → IsFaultless use_of → IsGiven command content result
      → IsMade command use_of result
  made_of content (Ok bytes) named told read given =
      record { content = content; made = given; told = told_by content (Made bytes.items) given told; read = read }
  made_of content (Err status.Done) named told read given = absurd given
  made_of content (Err status.Usage) named told read given = absurd given
  made_of content (Err status.ReadFault) named told read given = absurd given
  made_of content (Err (status.TooLong limit)) named told read given = absurd given
  made_of content (Err status.WriteFault) named told read given = absurd given
  made_of content (Err status.OutOfMemory) named told read given = record { name = name; named = named; read = read }
  made_of content (Err (status.BadLine line rule)) named told read given =
      record { told = told_by content (Refused (status.BadLine line rule)) given told; read = read }
  made_of content (Err (status.BadLength len)) named told read given =
      record { told = told_by content (Refused (status.BadLength len)) given told; read = read }

  -- a file that can't be had
  not_had : (limit : ℕ) (error : ShelfError) → Names command name
      → ((content : List ℕ) → limit < length content → rule_content command content ≡ Refused (status.TooLong limit))
      → IsFetched use_of.held name limit (Err error) → Blames {T = Vec ℕ Global} use_of.before use_of.after name (Err error)
      → IsMade command use_of (Err (status_of limit error))
  not_had limit shelf.TooLong named rule fetched blames =
      record {
        told =
            follows use_of.held (λ files. IsSomeAnd (files name) (λ bytes. limit < length bytes))
            (λ files. rule_command command files ≡ Refused (status.TooLong limit))
            (λ files long. known files ∙ long_content limit rule (files name) long) fetched;
        read = blames.0;
      }
  not_had limit shelf.Failed named rule fetched blames = record { name = name; named = named; failed = blames }
  not_had limit shelf.OutOfMemory named rule fetched blames = record { name = name; named = named; read = blames.0 }

long_test : (limit : ℕ) (content : List ℕ) (x : Ruling) → limit < length content
    → (if nat_lt limit (length content) then Refused (status.TooLong limit) else x) ≡ Refused (status.TooLong limit)
long_test limit content x long = ap (λ b. if b then Refused (status.TooLong limit) else x) (lt-ltb limit (length content) long)

pub made_image : (use_of : ShelfUse) (name content : List ℕ) (result : Result (Vec ℕ Global) AsmStatus)
    → IfTold use_of.held name (λ found. found ≡ Some content) → IsFaultless use_of → IsGiven (Assemble name) content result
    → IsMade (Assemble name) use_of result
made_image use_of name content result told read given = made_of (Assemble name) use_of name (λ files. refl) content result refl told read given

pub no_image : (use_of : ShelfUse) (name : List ℕ) (error : ShelfError) → IsFetched use_of.held name source_limit (Err error)
    → Blames {T = Vec ℕ Global} use_of.before use_of.after name (Err error) → IsMade (Assemble name) use_of (Err (status_of source_limit error))
no_image use_of name error fetched blames =
    not_had (Assemble name) use_of name (λ files. refl) source_limit error refl (λ content long. long_test source_limit content _ long) fetched blames

pub made_listing : (use_of : ShelfUse) (name content : List ℕ) (result : Result (Vec ℕ Global) AsmStatus)
    → IfTold use_of.held name (λ found. found ≡ Some content) → IsFaultless use_of → IsGiven (Show name) content result
    → IsMade (Show name) use_of result
made_listing use_of name content result told read given = made_of (Show name) use_of name (λ files. refl) content result refl told read given

pub no_listing : (use_of : ShelfUse) (name : List ℕ) (error : ShelfError) → IsFetched use_of.held name image_limit (Err error)
    → Blames {T = Vec ℕ Global} use_of.before use_of.after name (Err error) → IsMade (Show name) use_of (Err (status_of image_limit error))
no_listing use_of name error fetched blames =
    not_had (Show name) use_of name (λ files. refl) image_limit error refl (λ content long. long_test image_limit content _ long) fetched blames

-- what a put leaves
pub put_by : (sink : SinkUse) (text : List ℕ) (result : Result (Unit {0}) SinkFailed)
    → Takes sink.taken_before sink.taken_after text result → HasCause sink.faults_before sink.faults_after result → IsPut sink text
put_by sink text (Ok done) takes cause = inl (takes, cause)
put_by sink text (Err failed) takes cause = inr (takes, cause)

-- what was made is written, or a refusal's line is
pub shown : (call : Call) (bytes : List ℕ) (answer : AsmStatus) → HasMade (command_of call.words) call.shelf bytes
    → IsShown call.sink bytes answer → Outcome call answer
shown call bytes status.Done made text = record { bytes = bytes; made = made; text = text }
shown call bytes status.WriteFault made text = record { bytes = bytes; made = made; text = text }
shown call bytes status.Usage made text = absurd text
shown call bytes status.ReadFault made text = absurd text
shown call bytes (status.TooLong limit) made text = absurd text
shown call bytes status.OutOfMemory made text = absurd text
shown call bytes (status.BadLine line rule) made text = absurd text
shown call bytes (status.BadLength len) made text = absurd text

pub refused : (call : Call) (answer : AsmStatus) → IsMade (command_of call.words) call.shelf (Err answer)
    → IsPut call.sink (refusal_text answer) → Outcome call answer
refused call status.Done made put = absurd made
refused call status.WriteFault made put = absurd made
refused call status.Usage made put = (made.0, made.1, put)
refused call status.ReadFault made put = (made, put)
refused call (status.TooLong limit) made put = (made, put)
refused call status.OutOfMemory made put = (made, put)
refused call (status.BadLine line rule) made put = (made, put)
refused call (status.BadLength len) made put = (made, put)
