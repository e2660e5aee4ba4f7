pub mod FewSymbols
pub mod ScansDue
