-- The images of a generated workload fit the rooms of its VMs.
use Rattle.std.proofs.Common.{◌≡◌, ℕ, ◌≤◌, List, length, slice_get, Some, refl, sym, ap, ◌∙◌, arith}
use Rattle.bao_config.specs.Data.{VmData}
use Rattle.vm_model.specs.Apart.{FitRooms}
use Rattle.schedule.specs.Workload.{core_count, for_each_below, image_at, vm_at, workload_config, workload_images}
use Rattle.schedule.proofs.Counts.{got_below, length_below}

nine_words : (n v : ℕ) → length (image_at n v) ≡ 36
nine_words n v = refl

pub rooms : (n : ℕ) → FitRooms (workload_config n) (workload_images n)
unfolding workload_config workload_images
rooms n = record { count = length_below (image_at n) (core_count n) ∙ sym (length_below vm_at (core_count n)); each = each }
  where
    each : (v : ℕ) (vm : VmData) (image : List ℕ) → slice_get (for_each_below (core_count n) vm_at) v ≡ Some vm
        → slice_get (for_each_below (core_count n) (image_at n)) v ≡ Some image → length image ≤ vm.place.size
    each v vm image is got =
        let own = got_below vm_at (core_count n) v vm is in
        let made = got_below (image_at n) (core_count n) v image got in
        let room : 0x1000 ≡ vm.place.size = ap (λ (vm : VmData). vm.place.size) own.1 in
        let size : 36 ≡ length image = sym (nine_words n v) ∙ ap length made.1 in
        omega (arith, room, size)
