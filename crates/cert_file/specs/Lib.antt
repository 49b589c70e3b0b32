pub mod CertificateFiles
pub mod Conclusions
