-- What is done to ports, and the bytes that they are given.
use Rattle.std.proofs.Common.{◌≡◌, ℕ, Bool, true, false, List, [], ◌∷◌, refl, sym, ap, ◌∙◌, arith}
use Rattle.std.specs.Prelude.{IsTrue, IsFalse, ◌==◌, ◌&&◌, ◌||◌, if◌then◌else◌}
use Rattle.std.proofs.lemmas.Bool.Decides.{nat_tests}
use Rattle.ports.specs.PortState.{PortState}
use Rattle.ports.specs.Registers.{after_input, after_read, after_write, line_of_input}
use Rattle.bao_config.specs.Data.{ConfigData, VmData}
use Rattle.bao_wellformed.specs.Map.{has_port}
use Rattle.board.specs.Ports.{PortStates, PortAccess, ReadPort, WritePort, accessed, all_accessed, with_port}
use Rattle.vm_model.specs.Flat.{Flat, flat_given}
use Rattle.vm_model.specs.Agree.{Agree}

-- the same change of a port, where the port that is looked at is equal before
changed_alike : (change : PortState → PortState) (states others : PortStates) (touched port : ℕ) → states port ≡ others port
    → with_port touched (change (states touched)) states port ≡ with_port touched (change (others touched)) others port
changed_alike change states others touched port same = by_place (port == touched) refl
  where
    by_place : (here : Bool) → (port == touched) ≡ here
        → (if here then change (states touched) else states port) ≡ (if here then change (others touched) else others port)
    by_place true e =
        let at : port ≡ touched = grind (arith, nat_tests) in
        ap change (sym (ap states at) ∙ same ∙ ap others at)
    by_place false e = same

-- and the same accesses
pub accesses_alike : (accesses : List PortAccess) (states others : PortStates) (port : ℕ) → states port ≡ others port
    → all_accessed accesses states port ≡ all_accessed accesses others port
accesses_alike [] states others port same = same
accesses_alike (ReadPort touched offset width ∷ accesses) states others port same =
    accesses_alike accesses (accessed (ReadPort touched offset width) states) (accessed (ReadPort touched offset width) others) port
    (changed_alike (λ state. after_read state offset width) states others touched port same)
accesses_alike (WritePort touched offset width value ∷ accesses) states others port same =
    accesses_alike accesses (accessed (WritePort touched offset width value) states)
    (accessed (WritePort touched offset width value) others) port
    (changed_alike (λ state. after_write state offset width value) states others touched port same)

-- the line of a port that is given a byte is raised by the same test, where the port is equal before
given_line : (states others : PortStates) (given port : ℕ) → states port ≡ others port
    → (port == given && line_of_input (states given)) ≡ (port == given && line_of_input (others given))
given_line states others given port same = by_place (port == given) refl
  where
    by_place : (here : Bool) → (port == given) ≡ here
        → (here && line_of_input (states given)) ≡ (here && line_of_input (others given))
    by_place true e =
        let at : port ≡ given = grind (arith, nat_tests) in
        ap line_of_input (sym (ap states at) ∙ same ∙ ap others at)
    by_place false e = refl

module _ (cfg : ConfigData) (v : ℕ) (vm : VmData) (port byte : ℕ) (f g : Flat) (agree : Agree cfg v vm f g) where
  -- both are given the byte
  pub given_to_both : Agree cfg v vm (flat_given f port byte) (flat_given g port byte)
  given_to_both = record {
    bytes = agree.bytes;
    cores = agree.cores;
    powers = agree.powers;
    core_count = agree.core_count;
    table = agree.table;
    ports = λ other has. changed_alike (λ state. after_input state byte) f.ports g.ports port other (agree.ports other has);
    timer_lines = agree.timer_lines;
    port_lines = λ other has.
        ap (λ raised. raised || other == port && line_of_input (f.ports port)) (agree.port_lines other has)
        ∙ ap (λ raised. g.port_lines other || raised) (given_line f.ports g.ports port other (agree.ports other has));
  }

  -- a port that isn't the VM's is given it
  pub given_to_another : IsFalse (has_port port vm) → Agree cfg v vm (flat_given f port byte) g
  given_to_another foreign = record {
    bytes = agree.bytes;
    cores = agree.cores;
    powers = agree.powers;
    core_count = agree.core_count;
    table = agree.table;
    ports = λ other has. by_place other has (other == port) refl ∙ agree.ports other has;
    timer_lines = agree.timer_lines;
    port_lines = λ other has. line_by_place other has (other == port) refl (f.port_lines other) ∙ agree.port_lines other has;
  }
    where
      elsewhere : (other : ℕ) → IsTrue (has_port other vm) → (other == port) ≡ true → ⊥
      elsewhere other has e =
          let at : other ≡ port = grind (arith, nat_tests) in
          let clash : true ≡ false = sym has ∙ ap (λ p. has_port p vm) at ∙ foreign in cc

      by_place : (other : ℕ) → IsTrue (has_port other vm) → (here : Bool) → (other == port) ≡ here
          → (if here then after_input (f.ports port) byte else f.ports other) ≡ f.ports other
      by_place other has true e = absurd (elsewhere other has e)
      by_place other has false e = refl

      line_by_place : (other : ℕ) → IsTrue (has_port other vm) → (here : Bool) → (other == port) ≡ here → (raised : Bool)
          → (raised || here && line_of_input (f.ports port)) ≡ raised
      line_by_place other has true e raised = absurd (elsewhere other has e)
      line_by_place other has false e true = refl
      line_by_place other has false e false = refl
