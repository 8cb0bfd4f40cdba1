-- The numbers of a generated workload, as they are drawn one after the other.
use Rattle.std.proofs.Common.{◌≡◌, ℕ, zero, suc, ◌+◌, ◌*◌, ◌/◌, ◌%◌, ◌^◌, List, [], ◌∷◌, ◌++◌, map, refl, sym, ap, ◌∙◌, arith}
use Rattle.std.proofs.lemmas.List.{map-append}
use Rattle.std.proofs.lemmas.List.FromFn.{map-range_with_len_more}
use Rattle.hypervisor.specs.declared.event.Event.{Event}
use Rattle.schedule.specs.Workload.{bytes_of, draws, event_at, event_count, event_with, core_count, for_each_below, image_at, next_state, state_after, words_with, workload_events}

-- one element more
pub one_more : {A : Type 0} (element : ℕ → A) (count : ℕ) (xs : List A) (x : A) → xs ≡ for_each_below count element → x ≡ element count
    → xs ++ x ∷ [] ≡ for_each_below (count + 1) element
one_more element count xs x before last =
    (λ t. before t ++ last t ∷ []) ∙ sym (map-range_with_len_more element 0 count count (omega arith))

pub one_more_seen : {A B : Type 0} (view : A → B) (element : ℕ → B) (count : ℕ) (xs : List A) (x : A)
    → map view xs ≡ for_each_below count element → view x ≡ element count
    → map view (xs ++ x ∷ []) ≡ for_each_below (count + 1) element
one_more_seen view element count xs x before last =
    map-append view xs (x ∷ []) ∙ one_more element count (map view xs) (view x) before last

pub state_none : (n : ℕ) → n ≡ state_after n 0
unfolding state_after
state_none n = refl

pub state_more : (n count : ℕ) → next_state (state_after n count) ≡ state_after n (count + 1)
unfolding state_after
state_more n count = let next : suc count ≡ count + 1 = omega arith in ap (state_after n) next

pub state_two_more : (n v : ℕ) → next_state (next_state (state_after n (2 * v))) ≡ state_after n (2 * (v + 1))
state_two_more n v =
    let two : 2 * v + 1 + 1 ≡ 2 * (v + 1) = omega arith in
    ap next_state (state_more n (2 * v)) ∙ state_more n (2 * v + 1) ∙ ap (state_after n) two

pub state_sum : (n first second : ℕ) → state_after (state_after n first) second ≡ state_after n (first + second)
unfolding state_after
state_sum n first zero = let all : first ≡ first + zero = omega arith in ap (state_after n) all
state_sum n first (suc second) =
    let all : suc (first + second) ≡ first + suc second = omega arith in
    ap next_state (state_sum n first second) ∙ ap (state_after n) all

pub image_next : (n v state : ℕ) → state ≡ state_after n (2 * v)
    → bytes_of (words_with v (next_state state / 2 ^ 33 % 65536) (1 + next_state (next_state state) / 2 ^ 33 % 4095)) ≡ image_at n v
image_next n v state is =
    ap (λ s. bytes_of (words_with v (next_state s / 2 ^ 33 % 65536) (1 + next_state (next_state s) / 2 ^ 33 % 4095))) is
    ∙ ap (λ s. bytes_of (words_with v (draws n (2 * v) % 65536) (1 + next_state s / 2 ^ 33 % 4095))) (state_more n (2 * v))

events_next : (n : ℕ) (count : ℕ) → for_each_below count (λ number. event_with (core_count n) number (draws (state_after n (2 * core_count n)) number))
    ≡ for_each_below count (event_at n)
events_next n count =
    ap (for_each_below count)
    (λ t number. event_with (core_count n) number (next_state (state_sum n (2 * core_count n) number t) / 2 ^ 33))

-- all events
is_count : 200000 ≡ event_count
unfolding event_count
is_count = refl

pub all_events : (element : ℕ → Event) (number : ℕ) (events : List Event) → events ≡ for_each_below number element → number ≡ 200000
    → events ≡ for_each_below event_count element
all_events element number events is all = is ∙ ap (λ count. for_each_below count element) (all ∙ is_count)

pub events_are : (n seed start : ℕ) (events : List Event) → seed ≡ n → start ≡ state_after seed (2 * core_count n)
    → events ≡ for_each_below event_count (λ number. event_with (core_count n) number (draws start number)) → events ≡ workload_events n
unfolding workload_events
events_are n seed start events same from is =
    is
    ∙ ap (λ s. for_each_below event_count (λ number. event_with (core_count n) number (draws s number)))
    (from ∙ ap (λ s. state_after s (2 * core_count n)) same)
    ∙ events_next n event_count
