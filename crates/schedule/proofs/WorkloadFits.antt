-- Each number, text and list of a generated workload's configuration is one that the key table allows.
use Rattle.std.proofs.Common.{◌≡◌, ℕ, ◌%◌, ◌<◌, ◌≤◌, [], ◌∷◌, refl, arith, lit≤}
use Rattle.std.specs.Prelude.{IsTrue}
use Rattle.std.proofs.lemmas.List.Elements.{All-cons, All-nil}
use Rattle.std.proofs.lemmas.List.FromFn.{length-map-range_with_len}
use Rattle.bao_config.specs.Texts.{is_name, is_file_name}
use Rattle.bao_config.specs.Fits.{ConfigFits, DevFits, ListFits, PlatformFits, PortFits, RangeFits, RegionFits, VmFits, IpcFits, ShmemFits}
use Rattle.bao_config.specs.Bounds.{IsInBounds, core, entries}
use Rattle.schedule.specs.Workload.{config_of, core_count, for_each_below, load_at, name_at, platform_of, port_at, vm_at, workload_config}
use Rattle.schedule.proofs.Counts.{all_below, count_bounds, for_each}

-- a list of no element, of one, and of one for each number
none_fit : {A : Type 0} (most : ℕ) (Fits : A → Type 0) → ListFits 0 most Fits []
none_fit most Fits = record { long_enough = omega arith; short_enough = omega arith; each = All-nil Fits }

one_fits : {A : Type 0} (least most : ℕ) (Fits : A → Type 0) (x : A) → least ≤ 1 → 1 ≤ most → Fits x → ListFits least most Fits (x ∷ [])
one_fits least most Fits x few many fit =
    record { long_enough = few; short_enough = many; each = All-cons Fits x [] fit (All-nil Fits) }

each_fits : {A : Type 0} (least most : ℕ) (Fits : A → Type 0) (element : ℕ → A) (count : ℕ) → least ≤ count → count ≤ most
    → ((v : ℕ) → v < count → Fits (element v)) → ListFits least most Fits (for_each_below count element)
each_fits least most Fits element count few many fit =
    let size = length-map-range_with_len element 0 count in
    record { long_enough = omega (arith, size); short_enough = omega (arith, size); each = all_below Fits element count fit }

load_fits : (v size : ℕ) → v < 4 → 64 ≤ size → size ≤ 0x10000 → size % 64 ≡ 0 → RangeFits (record { base = load_at v; size = size })
load_fits v size low least most multiple =
    record {
      base = record { least = omega arith; most = omega arith; multiple = omega arith };
      size = record { least = omega arith; most = omega arith; multiple = multiple };
    }

port_fits : (v : ℕ) → v < 4 → PortFits (port_at v)
port_fits v low =
    record {
      id = record { least = omega arith; most = omega arith; multiple = omega arith };
      base = record { least = omega arith; most = omega arith; multiple = omega arith };
      spi = record { least = omega arith; most = omega arith; multiple = omega arith };
    }

name_fits : (v : ℕ) → v < 4 → IsTrue (is_name (name_at v))
name_fits = for_each (λ v. IsTrue (is_name (name_at v))) refl refl refl refl

image_fits : (v : ℕ) → v < 4 → IsTrue (is_file_name (vm_at v).image)
image_fits = for_each (λ v. IsTrue (is_file_name (vm_at v).image)) refl refl refl refl

vm_fits : (v : ℕ) → v < 4 → VmFits (vm_at v)
vm_fits v low =
    record {
      name = name_fits v low;
      image = image_fits v low;
      place = load_fits v 0x1000 low (lit≤ tt) (lit≤ tt) refl;
      start = record { least = omega arith; most = omega arith; multiple = omega arith };
      cores = one_fits 1 8 (IsInBounds core) v (lit≤ tt) (lit≤ tt) (record { least = omega arith; most = omega arith; multiple = omega arith });
      regions = one_fits 1 16 RegionFits _ (lit≤ tt) (lit≤ tt) (record { range = load_fits v 0x10000 low (lit≤ tt) (lit≤ tt) refl });
      devs = one_fits 0 16 DevFits _ (lit≤ tt) (lit≤ tt)
          (record { port = record { least = omega arith; most = omega arith; multiple = omega arith }; irq = record { least = lit≤ tt; most = lit≤ tt; multiple = refl } });
      ipcs = none_fit 8 IpcFits;
      guards = none_fit 16 RangeFits;
    }

platform_fits : (count : ℕ) → 2 ≤ count → count ≤ 4 → PlatformFits (platform_of count)
platform_fits count few many =
    record {
      banks = one_fits 1 8 RangeFits _ (lit≤ tt) (lit≤ tt)
          (record { base = record { least = lit≤ tt; most = lit≤ tt; multiple = refl }; size = record { least = lit≤ tt; most = lit≤ tt; multiple = refl } });
      cores = each_fits 1 8 (IsInBounds entries) (λ core. 16) count (omega arith) (omega arith) (λ v low. record { least = lit≤ tt; most = lit≤ tt; multiple = refl });
      gicd = record { least = lit≤ tt; most = lit≤ tt; multiple = refl };
      gicr = record { least = lit≤ tt; most = lit≤ tt; multiple = refl };
      ports = each_fits 0 16 PortFits port_at count (omega arith) (omega arith) (λ v low. port_fits v (omega arith));
    }

pub config_fits : (count : ℕ) → 2 ≤ count → count ≤ 4 → ConfigFits (config_of count)
config_fits count few many =
    record {
      version = record { least = lit≤ tt; most = lit≤ tt; multiple = refl };
      platform = platform_fits count few many;
      hyp = record { base = record { least = lit≤ tt; most = lit≤ tt; multiple = refl }; size = record { least = lit≤ tt; most = lit≤ tt; multiple = refl } };
      shmems = none_fit 8 ShmemFits;
      vms = each_fits 1 8 VmFits vm_at count (omega arith) (omega arith) (λ v low. vm_fits v (omega arith));
    }

pub workload_fits : (n : ℕ) → ConfigFits (workload_config n)
unfolding workload_config
workload_fits n = let bounds = count_bounds n in config_fits (core_count n) bounds.0 bounds.1
