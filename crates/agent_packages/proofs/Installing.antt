-- How a package's own calls end it.
use Rattle.std.proofs.Common.{◌≡◌, ℕ, List, [], ◌∷◌, true, false, ◌&&◌, Option, Some, None, Ok, Err, refl, sym, ◌∙◌, ap, subst}
use Rattle.std.specs.Prelude.{is_some}
use Rattle.std.specs.Cmp.Lexicographic.{bytes_decides}
use Rattle.std.specs.Str.{bytes_eq}
use Rattle.std.proofs.lemmas.Bool.{false≢true}
use Rattle.message_values.specs.declared.packages.DownloadableFile.{DownloadableFile}
use Rattle.message_values.specs.declared.packages.PackageAvailable.{PackageAvailable}
use Rattle.edge_devices.specs.declared.dialers.DialFail.TheVariants as dial
use Rattle.edge_devices.specs.declared.dialers.DialFail.{DialFail}
use Rattle.edge_devices.specs.declared.dialers.DialerCall.TheVariants.{Fetch}
use Rattle.edge_devices.specs.declared.folders.Area.TheVariants.{Packages}
use Rattle.edge_devices.specs.declared.folders.FolderCall.TheVariants.{Write}
use Rattle.edge_devices.specs.declared.folders.FolderFail.TheVariants as folder
use Rattle.edge_devices.specs.declared.folders.FolderFail.{FolderFail}
use Rattle.edge_devices.specs.Dialers.{DialerState, Dials, Asks}
use Rattle.edge_devices.specs.Folders.{FolderState, Calls, Makes, SameAreas, SameOthers}
use Rattle.edge_devices.specs.Names.{is_good_name}
use Rattle.edge_devices.proofs.Running.{makes_none}
use Rattle.edge_devices.proofs.Asking.{asks_none}
use Rattle.sha2.specs.Sha256.{sha256}
use Rattle.agent_packages.specs.declared.install.Ended.TheVariants.{Installed, BadName, NoFile, FetchFault, HashDiffers, FolderFault}
use Rattle.agent_packages.specs.Due.{IsWriteOf, MakesOnly}
use Rattle.agent_packages.specs.Touched.{KeepsOthers}
use Rattle.agent_packages.specs.Visits.{Installs, IsContent, IsOtherContent, url_of}
use Rattle.agent_packages.proofs.Dues.{only_makes_one}

module _ (d e : DialerState) (f g : FolderState) (name : List ℕ) (item : PackageAvailable) where
  pub bad_name : is_good_name name ≡ false → Installs d d f f name item BadName
  bad_name bad = record { content = []; ends = bad; fetched = asks_none d; written = makes_none f }

  module _ (good : is_good_name name ≡ true) where
    pub no_file : item.file ≡ None → Installs d d f f name item NoFile
    no_file none = record { content = []; ends = (good, none); fetched = asks_none d; written = makes_none f }

    module _ (file : DownloadableFile) (has : item.file ≡ Some file) where
      pub fetch_fault : (fail : DialFail) → fail ≡ dial.Fault → Dials {T = List ℕ} d e (Fetch file.download_url) (Err fail) → Installs d e f f name item FetchFault
      fetch_fault fail is made =
          let p : Dials {T = List ℕ} d e (Fetch (url_of item.file)) (Err dial.Fault) =
          subst (λ (o : Option DownloadableFile). Dials {T = List ℕ} d e (Fetch (url_of o)) (Err dial.Fault)) (sym has)
          (subst (λ (fail : DialFail). Dials {T = List ℕ} d e (Fetch file.download_url) (Err fail)) is made) in
          record {
            content = [];
            ends = (good, ap is_some has);
            fetched = record { told = p.told; calls = p.calls; count = p.count; fault = λ _. p.fault refl; no_want = p.no_want refl };
            written = makes_none f;
          }

      module _ (content : List ℕ) (made : Dials {T = List ℕ} d e (Fetch file.download_url) (Ok content)) where
        fetched : Asks d e (Fetch (url_of item.file) (Some content) ∷ [])
        fetched =
            let p : Dials {T = List ℕ} d e (Fetch (url_of item.file)) (Ok content) = subst (λ (o : Option DownloadableFile). Dials {T = List ℕ} d e (Fetch (url_of o)) (Ok content)) (sym has) made in
            record { told = p.told; calls = p.calls; count = p.count; fault = λ failed. absurd (false≢true failed); no_want = p.no_want refl }

        pub hash_differs : bytes_eq (sha256 content) file.content_hash ≡ false → Installs d e f f name item HashDiffers
        hash_differs other =
            record {
              content = content;
              ends = (good, subst (λ (o : Option DownloadableFile). IsOtherContent o content) (sym has) (λ same. false≢true (sym other ∙ (bytes_decides (sha256 content) file.content_hash).1 same)));
              fetched = fetched;
              written = makes_none f;
            }

        module _ (same : bytes_eq (sha256 content) file.content_hash ≡ true) where
          is_content : IsContent item.file content
          is_content = subst (λ (o : Option DownloadableFile). IsContent o content) (sym has) ((bytes_decides (sha256 content) file.content_hash).0 same)

          module _ (done : Calls {T = Unit {0}} f g (λ done. Write Packages name content (is_some done)) (Ok tt)) where
            written : Makes f g (Write Packages name content true ∷ [])
            written = record { told = done.told; calls = done.calls; count = done.count; fault = λ failed. absurd (false≢true failed) }

            pub installed : Installs d e f g name item Installed
            installed = record { content = content; ends = (good, is_content); fetched = fetched; written = written }

            pub installed_only : MakesOnly (IsWriteOf name item) f g
            installed_only = only_makes_one (IsWriteOf name item) f g (Write Packages name content true) (refl, refl, is_content) written

          module _ (fail : FolderFail) (is : fail ≡ folder.Fault) (done : Calls {T = Unit {0}} f g (λ done. Write Packages name content (is_some done)) (Err fail)) where
            failed : Makes f g (Write Packages name content false ∷ [])
            failed =
                let p : Calls {T = Unit {0}} f g (λ done. Write Packages name content (is_some done)) (Err folder.Fault) =
                subst (λ (fail : FolderFail). Calls {T = Unit {0}} f g (λ done. Write Packages name content (is_some done)) (Err fail)) is done in
                record { told = p.told; calls = p.calls; count = p.count; fault = λ _. p.fault refl }

            pub folder_fault : Installs d e f g name item FolderFault
            folder_fault = record { content = content; ends = (good, is_content); fetched = fetched; written = failed }

            pub fault_only : MakesOnly (IsWriteOf name item) f g
            fault_only = only_makes_one (IsWriteOf name item) f g (Write Packages name content false) (refl, refl, is_content) failed

pub others_same : (f g : FolderState) (name : List ℕ) → SameOthers Packages name f.files g.files → SameAreas Packages f.files g.files
others_same f g name same = λ other file apart. same other file (ap (λ b. b && bytes_eq name file) apart)

pub others_kept : (f g : FolderState) (name : List ℕ) → SameOthers Packages name f.files g.files → KeepsOthers (bytes_eq name) f g
others_kept f g name same = λ other apart. same Packages other apart
