-- The columns of a value: they tell it, and whether it may be kept.
use Rattle.std.proofs.Common.{◌≡◌, ℕ, ◌≤◌, Bool, nat_eq, length, List, [], ◌∷◌, refl, ap, ◌∙◌, arith}
use Rattle.std.specs.Prelude.{◌&&◌}
use Rattle.std.specs.List.{list_all}
use Rattle.plain_values.specs.declared.maps.Pair.{Pair}
use Rattle.message_values.specs.declared.packages.PackageStatuses.{PackageStatuses}
use Rattle.message_codec.specs.Values.{Values}
use Rattle.message_codec.specs.Means.{entries_of}
use Rattle.message_codec.specs.Levels.{deepest, levels}
use Rattle.message_codec.specs.Fits.{pairs_of}
use Rattle.message_attributes.specs.PartColumns.{config_file_columns}
use Rattle.message_attributes.proofs.Injective.{inside, number_tells, flag_tells, content_tells, config_map_columns_tell}
use Rattle.message_attributes.proofs.Shallow.{entries_shallow, config_map_levels}
use Rattle.message_reports.specs.Columns.{package_status_columns, package_statuses_columns}
use Rattle.message_reports.proofs.Injective.{remote_config_status_columns_tell, package_statuses_columns_tell}
use Rattle.message_replies.proofs.Injective.{headers_columns_tell}
use Rattle.message_replies.proofs.Shallow.{headers_levels}
use Rattle.edge_devices.specs.Names.{is_good_among, are_good_names}
use Rattle.agent_rules.specs.declared.saved.Saved.{Saved}
use Rattle.agent_rules.specs.Columns.{saved_columns, column_at}
use Rattle.agent_rules.specs.Right.{is_right, are_right}

-- ---- the value

pub saved_columns_tell : (s t : Saved) → saved_columns s ≡ saved_columns t → s ≡ t
saved_columns_tell s t e = λ i. record {
  uid = content_tells _ _ (ap (column_at 0) e) i;
  limit = number_tells _ _ (ap (column_at 1) e) i;
  uid_given = flag_tells _ _ (ap (column_at 2) e) i;
  settings = record {
    endpoint = content_tells _ _ (ap (column_at 3) e) i;
    headers = headers_columns_tell _ _ (ap (λ (vs : Values). inside (column_at 4 vs)) e) i;
    interval = number_tells _ _ (ap (column_at 5) e) i;
    hash = content_tells _ _ (ap (column_at 6) e) i;
  };
  config = config_map_columns_tell _ _ (ap (λ (vs : Values). inside (column_at 7 vs)) e) i;
  config_hash = content_tells _ _ (ap (column_at 10) e) i;
  remote = remote_config_status_columns_tell _ _ (ap (λ (vs : Values). inside (column_at 8 vs)) e) i;
  packages = package_statuses_columns_tell _ _ (ap (λ (vs : Values). inside (column_at 9 vs)) e) i;
  components_hash = content_tells _ _ (ap (column_at 11) e) i;
}

-- ---- whether it may be kept

names_among : {T : Type 0} (columns : T → Values) (n : ℕ) (ps : List (Pair T)) → list_all (λ (p : Pair Values). is_good_among n p.key) (pairs_of (entries_of columns ps)) ≡ list_all (λ (p : Pair T). is_good_among n p.key) ps
names_among columns n [] = refl
names_among columns n (p ∷ ps) = ap (λ (b : Bool). is_good_among n p.key && b) (names_among columns n ps)

pairs_many : {T : Type 0} (columns : T → Values) (ps : List (Pair T)) → length (pairs_of (entries_of columns ps)) ≡ length ps
pairs_many columns [] = refl
pairs_many columns (p ∷ ps) = omega (arith, pairs_many columns ps)

names_are : {T : Type 0} (columns : T → Values) (ps : List (Pair T)) → are_good_names (pairs_of (entries_of columns ps)) ≡ are_good_names ps
names_are columns ps =
    ap (λ (n : ℕ). list_all (λ (p : Pair Values). is_good_among n p.key) (pairs_of (entries_of columns ps))) (pairs_many columns ps) ∙ names_among columns (length ps) ps

pub right_is : (s : Saved) → are_right (saved_columns s) ≡ (nat_eq (length s.uid) 16 && is_right s)
unfolding are_right
right_is s = rw (names_are config_file_columns s.config.config_map) refl

-- ---- how deep it nests

packages_levels : (p : PackageStatuses) → levels (package_statuses_columns p) ≤ 3
packages_levels p = omega (arith, entries_shallow package_status_columns 0 (λ s. omega arith) p.packages)

pub saved_shallow : (s : Saved) → deepest (saved_columns s) ≤ 99
saved_shallow s = omega (arith, headers_levels s.settings.headers, config_map_levels s.config, packages_levels s.packages)
